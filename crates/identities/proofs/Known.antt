-- Known identities, run through the two calls: an example of 001's annex E.3 for each scheme, gdti-113 by hand, each reading of section 6.3
-- that docs/DECISIONS.md lists, the numbers, and the form of each family.
use Prim.Native.Nat.{ℕ}
use Prim.Native.String.{String}
use mathlib.Core.Path.{◌≡◌, refl}
use mathlib.Core.List.{List, [], ◌∷◌, map}
use lib.ListN.{replicate}
use Rattle.numeral.specs.Numeral.{value}
use Rattle.rules.specs.Answers.{refused, taken}
use Rattle.rules.specs.Bytes.{bytes}
use Rattle.rules.specs.Schemes.{schemes, rows}
use Rattle.rules.specs.Characters.{table_a1, escaped}
use Rattle.rules.specs.Grammar.{text_of}
use Rattle.rules.specs.Grammar.{start as tagStart}
use Rattle.rules.specs.TextNumbers.{value_in, tag_of_text}
use Rattle.rules.specs.Calls.{Call, call, text_room}
use Rattle.identities.specs.Families.{families}
use Rattle.identities.specs.Grammar.{part_characters, start, identity_text}
use Rattle.identities.specs.OfTags.{identity_of}
use Rattle.identities.specs.Numbers.{identity_in, held_by, tag_of_identity}
use Rattle.identities.specs.Calls.{tag_to_identity, identity_to_tag}

-- what is known: a tag text and its identity, which with this filter gives the text back; a tag text and its identity alone; an identity and a filter
-- that give a tag text; a tag text, or an identity and a filter, that are refused
pub data Known : Type 0 where
  each : ℕ → String → String → Known
  drops : String → String → Known
  gets : ℕ → String → String → Known
  no_tag : String → ℕ → ℕ → Known
  refuses : ℕ → String → ℕ → Known

unfoldable pub blank : List ℕ
blank = replicate text_room 7

unfoldable pub written : String → Call
written t = call blank (taken (0, bytes t))

-- what the calls give, and what they should
unfoldable pub gives : Known → List Call
gives (each f t i) = tag_to_identity (bytes t) blank ∷ identity_to_tag f (bytes i) blank ∷ []
gives (drops t i) = tag_to_identity (bytes t) blank ∷ []
gives (gets f i t) = identity_to_tag f (bytes i) blank ∷ []
gives (no_tag t n p) = tag_to_identity (bytes t) blank ∷ []
gives (refuses f i n) = identity_to_tag f (bytes i) blank ∷ []

unfoldable pub expected : Known → List Call
expected (each f t i) = written i ∷ written t ∷ []
expected (drops t i) = written i ∷ []
expected (gets f i t) = written t ∷ []
expected (no_tag t n p) = call blank (refused n p) ∷ []
expected (refuses f i n) = call blank (refused n 0) ∷ []

-- 001, annex E.3 (docs/vectors.tsv)
unfoldable pub annex : List Known
annex =
    each 3 "urn:epc:tag:sgtin-96:3.95060001343.05.123456789" "urn:epc:id:sgtin:95060001343.05.123456789" ∷
    each 3 "urn:epc:tag:sgtin-198:3.95060001343.05.32a%2Fb" "urn:epc:id:sgtin:95060001343.05.32a%2Fb" ∷
    each 0 "urn:epc:tag:sscc-96:0.952012.03456789123" "urn:epc:id:sscc:952012.03456789123" ∷
    each 3 "urn:epc:tag:sgln-96:3.9521141.12345.5678" "urn:epc:id:sgln:9521141.12345.5678" ∷
    each 3 "urn:epc:tag:sgln-195:3.9521141.12345.32a%2Fb" "urn:epc:id:sgln:9521141.12345.32a%2Fb" ∷
    each 3 "urn:epc:tag:grai-96:3.9521141.12345.5678" "urn:epc:id:grai:9521141.12345.5678" ∷
    each 3 "urn:epc:tag:grai-170:3.9521141.12345.32a%2Fb" "urn:epc:id:grai:9521141.12345.32a%2Fb" ∷
    each 3 "urn:epc:tag:giai-96:3.9521141.5678" "urn:epc:id:giai:9521141.5678" ∷
    each 3 "urn:epc:tag:gsrn-96:3.9521141.1234567890" "urn:epc:id:gsrn:9521141.1234567890" ∷
    each 3 "urn:epc:tag:gsrnp-96:3.9521141.1234567890" "urn:epc:id:gsrnp:9521141.1234567890" ∷
    each 3 "urn:epc:tag:gdti-96:3.9521141.12345.5678" "urn:epc:id:gdti:9521141.12345.5678" ∷
    each 3 "urn:epc:tag:gdti-174:3.9521141.98765.ABCDefgh012345678" "urn:epc:id:gdti:9521141.98765.ABCDefgh012345678" ∷
    each 3 "urn:epc:tag:cpi-96:3.9521141.98765.12345" "urn:epc:id:cpi:9521141.98765.12345" ∷
    each 3 "urn:epc:tag:sgcn-96:3.9521141.67890.04711" "urn:epc:id:sgcn:9521141.67890.04711" ∷
    each 0 "urn:epc:tag:gid-96:952056.2718.1414" "urn:epc:id:gid:952056.2718.1414" ∷
    -- of schemes that we do not have
    refuses 3 "urn:epc:id:giai:9521141.32a%2Fb" 25 ∷
    refuses 3 "urn:epc:id:cpi:9521141.5PQ7%2FZ43.12345" 25 ∷
    refuses 3 "urn:epc:id:usdod:CAGEY.5678" 23 ∷
    refuses 3 "urn:epc:id:itip:9521141.012345.01.02.981" 23 ∷ []

-- gdti-113 is never chosen, and its texts have identities; control fields are dropped; leading zeros stay
unfoldable pub choices : List Known
choices =
    drops "urn:epc:tag:gdti-113:3.9521141.12345.006847" "urn:epc:id:gdti:9521141.12345.006847" ∷
    gets 3 "urn:epc:id:gdti:9521141.12345.006847" "urn:epc:tag:gdti-174:3.9521141.12345.006847" ∷
    drops "urn:epc:tag:gdti-174:3.9521141.12345.5678" "urn:epc:id:gdti:9521141.12345.5678" ∷
    drops "urn:epc:tag:[umi=1][att=xFF]:sgtin-96:3.0614141.812345.6789" "urn:epc:id:sgtin:0614141.812345.6789" ∷
    gets 7 "urn:epc:id:sgtin:0614141.812345.274877906943" "urn:epc:tag:sgtin-96:7.0614141.812345.274877906943" ∷
    gets 7 "urn:epc:id:sgtin:0614141.812345.274877906944" "urn:epc:tag:sgtin-198:7.0614141.812345.274877906944" ∷
    gets 0 "urn:epc:id:sgtin:0614141.812345.007" "urn:epc:tag:sgtin-198:0.0614141.812345.007" ∷
    gets 0 "urn:epc:id:sgtin:0614141.812345.a:b.c" "urn:epc:tag:sgtin-198:0.0614141.812345.a:b.c" ∷
    gets 3 "urn:epc:id:sgln:952656789012..0" "urn:epc:tag:sgln-96:3.952656789012..0" ∷
    gets 1 "urn:epc:id:grai:000000000001..5" "urn:epc:tag:grai-96:1.000000000001..5" ∷ []

-- the numbers, and the readings of section 6.3
unfoldable pub numbers : List Known
numbers =
    no_tag "urn:epc:id:sgtin:0614141.812345.6789" 2 0 ∷
    no_tag "urn:epc:tag:[umi=0]:sgtin-96:3.0614141.812345.6789" 20 12 ∷
    no_tag "urn:epc:tag:sgtin-96:8.0614141.812345.6789" 4 21 ∷
    refuses 0 "" 23 ∷
    refuses 0 "urn:epc:id:sgtin" 23 ∷
    refuses 0 "urn:epc:id:sgtin:" 23 ∷
    refuses 0 "urn:epc:tag:sgtin-96:3.0614141.812345.6789" 23 ∷
    -- a total of 12 and of 14 for 13; with 13, a prefix of 5 digits and of 12
    refuses 0 "urn:epc:id:sgtin:0614141.81234.6789" 23 ∷
    refuses 0 "urn:epc:id:sgtin:0614141.8123456.6789" 23 ∷
    refuses 0 "urn:epc:id:sgtin:12345.12345678.1" 25 ∷
    gets 0 "urn:epc:id:sgtin:123456789012.3.1" "urn:epc:tag:sgtin-96:0.123456789012.3.1" ∷
    refuses 0 "urn:epc:id:sgtin:1234567890123..1" 23 ∷
    refuses 0 "urn:epc:id:sgln:12345.1234567.1" 25 ∷
    refuses 0 "urn:epc:id:sscc:1234567890123.4567" 25 ∷
    -- sgcn's serial: 12 digits, and 13
    gets 0 "urn:epc:id:sgcn:9521141.67890.000000000000" "urn:epc:tag:sgcn-96:0.9521141.67890.000000000000" ∷
    refuses 0 "urn:epc:id:sgcn:9521141.67890.0000000000000" 23 ∷
    -- a string of 20 characters, and of 21; our escapes alone
    gets 0 "urn:epc:id:sgtin:0614141.812345.%2F%2F%2F%2F%2F%2F%2F%2F%2F%2F%2F%2F%2F%2F%2F%2F%2F%2F%2F%2F" "urn:epc:tag:sgtin-198:0.0614141.812345.%2F%2F%2F%2F%2F%2F%2F%2F%2F%2F%2F%2F%2F%2F%2F%2F%2F%2F%2F%2F" ∷
    refuses 0 "urn:epc:id:sgtin:0614141.812345.abcdefghijklmnopqrstu" 25 ∷
    refuses 0 "urn:epc:id:sgtin:0614141.812345.%2f" 23 ∷
    refuses 0 "urn:epc:id:sgtin:0614141.812345.%41" 23 ∷
    refuses 0 "urn:epc:id:sgtin:0614141.812345." 23 ∷
    -- cpi's reference and serial
    refuses 0 "urn:epc:id:cpi:0614141.A-Z.1" 25 ∷
    refuses 0 "urn:epc:id:cpi:0614141.%23%2F.1" 25 ∷
    refuses 0 "urn:epc:id:cpi:0614141.%2f.1" 23 ∷
    refuses 0 "urn:epc:id:cpi:0614141.a.1" 23 ∷
    refuses 0 "urn:epc:id:cpi:0614141..1" 23 ∷
    refuses 0 "urn:epc:id:cpi:0614141.007.1" 25 ∷
    refuses 0 "urn:epc:id:cpi:0614141.123456789.1" 25 ∷
    refuses 0 "urn:epc:id:cpi:0614141.7.01" 23 ∷
    refuses 0 "urn:epc:id:cpi:0614141.7.2147483648" 25 ∷
    -- giai's reference
    refuses 0 "urn:epc:id:giai:0614141.a" 25 ∷
    refuses 0 "urn:epc:id:giai:0614141.007" 25 ∷
    refuses 0 "urn:epc:id:giai:0614141.#" 23 ∷
    -- the filter, behind the form and before the scheme; gid has none
    refuses 8 "urn:epc:id:sgtin:0614141.812345.6789" 24 ∷
    refuses 9 "urn:epc:id:sgtin:0614141.81234.6789" 23 ∷
    refuses 9 "urn:epc:id:sgtin:12345.12345678.1" 24 ∷
    refuses 1 "urn:epc:id:gid:1.2.3" 24 ∷
    refuses 0 "urn:epc:id:gid:1.2.03" 23 ∷
    refuses 0 "urn:epc:id:gid:268435456.2.3" 25 ∷ []

-- each family's components and total: a digit too few; no prefix, a letter in it, and nearly all digits in it; the same of the reference
unfoldable pub forms : List Known
forms =
    refuses 0 "urn:epc:id:sgtin:.0000000000000.1" 23 ∷
    refuses 0 "urn:epc:id:sgtin:A614141.812345.1" 23 ∷
    refuses 0 "urn:epc:id:sgtin:0614141.81234A.1" 23 ∷
    refuses 0 "urn:epc:id:sgtin:0.000000000000.1" 25 ∷
    refuses 0 "urn:epc:id:sscc:0614141.012345678" 23 ∷
    refuses 0 "urn:epc:id:sscc:.00000000000000000" 23 ∷
    refuses 0 "urn:epc:id:sscc:A614141.0123456789" 23 ∷
    refuses 0 "urn:epc:id:sscc:0000000000000000.0" 25 ∷
    refuses 0 "urn:epc:id:sscc:00000000000000000." 23 ∷
    refuses 0 "urn:epc:id:sscc:0614141.012345678A" 23 ∷
    refuses 0 "urn:epc:id:sscc:0.0000000000000000" 25 ∷
    refuses 0 "urn:epc:id:gsrn:0614141.012345678" 23 ∷
    refuses 0 "urn:epc:id:gsrn:.00000000000000000" 23 ∷
    refuses 0 "urn:epc:id:gsrn:A614141.0123456789" 23 ∷
    refuses 0 "urn:epc:id:gsrn:0000000000000000.0" 25 ∷
    refuses 0 "urn:epc:id:gsrn:00000000000000000." 23 ∷
    refuses 0 "urn:epc:id:gsrn:0614141.012345678A" 23 ∷
    refuses 0 "urn:epc:id:gsrn:0.0000000000000000" 25 ∷
    refuses 0 "urn:epc:id:gsrnp:0614141.012345678" 23 ∷
    refuses 0 "urn:epc:id:gsrnp:.00000000000000000" 23 ∷
    refuses 0 "urn:epc:id:gsrnp:A614141.0123456789" 23 ∷
    refuses 0 "urn:epc:id:gsrnp:0000000000000000.0" 25 ∷
    refuses 0 "urn:epc:id:gsrnp:00000000000000000." 23 ∷
    refuses 0 "urn:epc:id:gsrnp:0614141.012345678A" 23 ∷
    refuses 0 "urn:epc:id:gsrnp:0.0000000000000000" 25 ∷
    refuses 0 "urn:epc:id:sgln:0614141.0123.1" 23 ∷
    refuses 0 "urn:epc:id:sgln:.000000000000.1" 23 ∷
    refuses 0 "urn:epc:id:sgln:A614141.01234.1" 23 ∷
    gets 0 "urn:epc:id:sgln:000000000000..1" "urn:epc:tag:sgln-96:0.000000000000..1" ∷
    refuses 0 "urn:epc:id:sgln:0614141.0123A.1" 23 ∷
    refuses 0 "urn:epc:id:sgln:0.00000000000.1" 25 ∷
    refuses 0 "urn:epc:id:grai:0614141.0123.1" 23 ∷
    refuses 0 "urn:epc:id:grai:.000000000000.1" 23 ∷
    refuses 0 "urn:epc:id:grai:A614141.01234.1" 23 ∷
    gets 0 "urn:epc:id:grai:000000000000..1" "urn:epc:tag:grai-96:0.000000000000..1" ∷
    refuses 0 "urn:epc:id:grai:0614141.0123A.1" 23 ∷
    refuses 0 "urn:epc:id:grai:0.00000000000.1" 25 ∷
    refuses 0 "urn:epc:id:gdti:0614141.0123.1" 23 ∷
    refuses 0 "urn:epc:id:gdti:.000000000000.1" 23 ∷
    refuses 0 "urn:epc:id:gdti:A614141.01234.1" 23 ∷
    gets 0 "urn:epc:id:gdti:000000000000..1" "urn:epc:tag:gdti-96:0.000000000000..1" ∷
    refuses 0 "urn:epc:id:gdti:0614141.0123A.1" 23 ∷
    refuses 0 "urn:epc:id:gdti:0.00000000000.1" 25 ∷
    refuses 0 "urn:epc:id:sgcn:0614141.0123.1" 23 ∷
    refuses 0 "urn:epc:id:sgcn:.000000000000.1" 23 ∷
    refuses 0 "urn:epc:id:sgcn:A614141.01234.1" 23 ∷
    gets 0 "urn:epc:id:sgcn:000000000000..1" "urn:epc:tag:sgcn-96:0.000000000000..1" ∷
    refuses 0 "urn:epc:id:sgcn:0614141.0123A.1" 23 ∷
    refuses 0 "urn:epc:id:sgcn:0.00000000000.1" 25 ∷
    refuses 0 "urn:epc:id:sgcn:0614141.01234." 23 ∷
    refuses 0 "urn:epc:id:giai:.1" 23 ∷
    refuses 0 "urn:epc:id:giai:A614141.1" 23 ∷
    refuses 0 "urn:epc:id:giai:00000000000000.1" 25 ∷
    refuses 0 "urn:epc:id:gid:01.2.3" 23 ∷
    refuses 0 "urn:epc:id:gid:.2.3" 23 ∷
    refuses 0 "urn:epc:id:gid:A.2.3" 23 ∷
    refuses 0 "urn:epc:id:gid:10000000000000.2.3" 25 ∷
    refuses 0 "urn:epc:id:gid:1.02.3" 23 ∷
    refuses 0 "urn:epc:id:gid:1..3" 23 ∷
    refuses 0 "urn:epc:id:gid:1.A.3" 23 ∷
    refuses 0 "urn:epc:id:gid:1.20000000000000.3" 25 ∷
    refuses 0 "urn:epc:id:cpi:.7.1" 23 ∷
    refuses 0 "urn:epc:id:cpi:A614141.7.1" 23 ∷
    refuses 0 "urn:epc:id:cpi:00000000000000.7.1" 25 ∷
    refuses 0 "urn:epc:id:cpi:0614141.0123456789ABCDEFGHIJKLMNOPQRSTUVWXYZ-.1" 25 ∷
    refuses 0 "urn:epc:id:cpi:0614141.,.1" 23 ∷
    refuses 0 "urn:epc:id:cpi:0614141./.1" 23 ∷
    refuses 0 "urn:epc:id:cpi:0614141.:.1" 23 ∷
    refuses 0 "urn:epc:id:cpi:0614141.@.1" 23 ∷
    refuses 0 "urn:epc:id:cpi:0614141.[.1" 23 ∷
    refuses 0 "urn:epc:id:cpi:0614141._.1" 23 ∷ []

pub known_identities : (map gives annex ≡ map expected annex) × (map gives choices ≡ map expected choices) × (map gives numbers ≡ map expected numbers) × (map gives forms ≡ map expected forms)
unfolding annex choices numbers forms gives expected written blank tag_to_identity identity_to_tag tag_of_identity identity_in held_by identity_text identity_of text_of tag_of_text value_in value schemes rows table_a1 escaped families part_characters start tagStart
known_identities = (refl, refl, refl, refl)
