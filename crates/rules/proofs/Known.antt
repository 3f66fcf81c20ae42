-- The known tags, run through the public calls: document 01's rows 1 to 14 with tagline's example, an example of
-- 001's annex for each scheme, and gdti-113, which has none there, by hand; control fields; places; and long chips.
use Prim.Native.Nat.{ℕ}
use Prim.Native.String.{String}
use mathlib.Core.Path.{◌≡◌, refl}
use mathlib.Core.List.{List, [], ◌∷◌, map}
use lib.ListN.{replicate}
use Rattle.numeral.specs.Numeral.{value, numeral, spread, gather, size_in, size, shortest}
use Rattle.rules.specs.Answers.{refused, taken}
use Rattle.rules.specs.Bytes.{bytes}
use Rattle.rules.specs.Schemes.{schemes, rows}
use Rattle.rules.specs.Characters.{table_a1, escaped}
use Rattle.rules.specs.Grammar.{text_of, start}
use Rattle.rules.specs.Coding.{bank_of, word_count}
use Rattle.rules.specs.TextNumbers.{value_in, tag_of_text}
use Rattle.rules.specs.BankNumbers.{tag_of_bank}
use Rattle.rules.specs.Raw.{raw_text, raw_of_bank}
use Rattle.rules.specs.Calls.{Call, call, bank_of_text, text_to_bank, bank_to_text, raw_line, bank_room, text_room}

-- what is known of a text and a bank: each gives the other, in as many words as the scheme needs or in so many; or one of them gives a number and
-- a place, the text where so many words are asked for; the raw line of a bank
pub data Known : Type 0 where
  each : String → List ℕ → Known
  long : String → ℕ → List ℕ → Known
  text : String → ℕ → ℕ → Known
  asked : ℕ → String → ℕ → ℕ → Known
  bank : List ℕ → ℕ → ℕ → Known
  raw : List ℕ → String → Known

-- a bank of W words, first the control word, as one number
unfoldable pub words6 : ℕ → List ℕ
words6 = numeral 256 14

unfoldable pub words8 : ℕ → List ℕ
words8 = numeral 256 18

unfoldable pub words11 : ℕ → List ℕ
words11 = numeral 256 24

unfoldable pub words13 : ℕ → List ℕ
words13 = numeral 256 28

unfoldable pub words31 : ℕ → List ℕ
words31 = numeral 256 64

-- an output of the room that a call asks for
unfoldable pub blank : ℕ → List ℕ
blank n = replicate n 7

-- what the calls give, and what they should
unfoldable pub gives : Known → List Call
gives (each t b) = text_to_bank 0 (bytes t) (blank bank_room) ∷ bank_to_text b (blank text_room) ∷ []
gives (long t W b) = text_to_bank W (bytes t) (blank bank_room) ∷ bank_to_text b (blank text_room) ∷ []
gives (text t n p) = text_to_bank 0 (bytes t) (blank bank_room) ∷ []
gives (asked W t n p) = text_to_bank W (bytes t) (blank bank_room) ∷ []
gives (bank b n p) = bank_to_text b (blank text_room) ∷ []
gives (raw b t) = raw_line b (blank text_room) ∷ []

unfoldable pub expected : Known → List Call
expected (each t b) = let W = word_count b in call (blank bank_room) (taken (W, b)) ∷ call (blank text_room) (taken (W, bytes t)) ∷ []
expected (long t W b) = call (blank bank_room) (taken (W, b)) ∷ call (blank text_room) (taken (W, bytes t)) ∷ []
expected (text t n p) = call (blank bank_room) (refused n p) ∷ []
expected (asked W t n p) = call (blank bank_room) (refused n p) ∷ []
expected (bank b n p) = call (blank text_room) (refused n p) ∷ []
expected (raw b t) = call (blank text_room) (taken (word_count b, bytes t)) ∷ []

unfoldable pub rows1to14 : List Known
rows1to14 =
    -- 1
    each "urn:epc:tag:sgtin-96:3.0614141.812345.6789" (words6 0x3000_3074257BF7194E4000001A85) ∷
    -- 2
    each "urn:epc:tag:grai-96:3.0614141.12345.5678" (words6 0x3000_3374257BF40C0E400000162E) ∷
    -- 3
    each "urn:epc:tag:grai-96:0.000000000001..5" (words6 0x3000_330000000000040000000005) ∷
    -- 4
    bank (words6 0x3000_330000000000044000000005) 18 0x56 ∷
    -- 5
    each "urn:epc:tag:sscc-96:3.0614141.1234567890" (words6 0x3000_3174257BF4499602D2000000) ∷
    bank (words6 0x3000_3174257BF4499602D2000001) 15 0x7F ∷
    -- 6
    each "urn:epc:tag:sgtin-198:0.0614141.812345.a.b" (words13 0x6800_3614257BF7194E70AEC400000000000000000000000000000000) ∷
    -- 7
    each "urn:epc:tag:sgtin-96:3.0614141.812345.274877906943" (words6 0x3000_3074257BF7194E7FFFFFFFFF) ∷
    text "urn:epc:tag:sgtin-96:3.0614141.812345.274877906944" 8 38 ∷
    -- 8
    text "urn:epc:tag:sgtin-96:3.0614141.812345.007" 7 38 ∷
    -- 9
    each "urn:epc:tag:sgtin-198:0.0614141.812345.a%2Fb" (words13 0x6800_3614257BF7194E70AFC400000000000000000000000000000000) ∷
    text "urn:epc:tag:sgtin-198:0.0614141.812345.a%2fb" 7 39 ∷
    text "urn:epc:tag:sgtin-198:0.0614141.812345.%41" 7 39 ∷
    -- 10
    text "urn:epc:tag:sgtin-96:8.0614141.812345.6789" 4 21 ∷
    -- 11
    bank (words6 0x3000_307C257BF7194E4000001A85) 16 0x2B ∷
    -- 12
    bank (words6 0x3000_3003FFFFFFFFFC0000000000) 17 0x2E ∷
    -- 13
    each "urn:epc:tag:[att=x01]:sgtin-96:3.0614141.812345.6789" (words6 0x3001_3074257BF7194E4000001A85) ∷
    bank (words6 0x3100_3074257BF7194E4000001A85) 11 0x17 ∷
    bank (words6 0x0000_3074257BF7194E4000001A85) 10 0x10 ∷
    -- 14
    bank (words13 0x3000_3614257BF7194E70AEC400000000000000000000000000000000) 14 0x10 ∷
    -- tagline's lines that rows 2 and 4 don't have
    raw (words6 0x3000_330000000000044000000005) "urn:epc:raw:96.x330000000000044000000005" ∷
    bank [] 9 0 ∷ []

-- 001, annex E.3, lines 11955 to 12200, as corrected in docs; the last two are those of 000, lines 5069 and 5057
unfoldable pub annex : List Known
annex =
    each "urn:epc:tag:sgtin-96:3.95060001343.05.123456789" (words6 0x3000_3066C4409047E140075BCD15) ∷
    each "urn:epc:tag:sgtin-198:3.95060001343.05.32a%2Fb" (words13 0x6800_3666C4409047E159B2C2BF100000000000000000000000000000) ∷
    each "urn:epc:tag:sscc-96:0.952012.03456789123" (words6 0x3000_311BA1B300CE0A6A83000000) ∷
    each "urn:epc:tag:sgln-96:3.9521141.12345.5678" (words6 0x3000_3276451FD46072000000162E) ∷
    each "urn:epc:tag:sgln-195:3.9521141.12345.32a%2Fb" (words13 0x6800_3976451FD46072CD9615F8800000000000000000000000000000) ∷
    each "urn:epc:tag:grai-96:3.9521141.12345.5678" (words6 0x3000_3376451FD40C0E400000162E) ∷
    each "urn:epc:tag:grai-170:3.9521141.12345.32a%2Fb" (words11 0x5800_3776451FD40C0E59B2C2BF1000000000000000000000) ∷
    each "urn:epc:tag:giai-96:3.9521141.5678" (words6 0x3000_3476451FD40000000000162E) ∷
    each "urn:epc:tag:gsrn-96:3.9521141.1234567890" (words6 0x3000_2D76451FD4499602D2000000) ∷
    each "urn:epc:tag:gsrnp-96:3.9521141.1234567890" (words6 0x3000_2E76451FD4499602D2000000) ∷
    each "urn:epc:tag:gdti-96:3.9521141.12345.5678" (words6 0x3000_2C76451FD46072000000162E) ∷
    each "urn:epc:tag:gdti-174:3.9521141.98765.ABCDefgh012345678" (words11 0x5800_3E76451FD7039B061438997367D0C18B266D1AB66EE0) ∷
    each "urn:epc:tag:gid-96:952056.2718.1414" (words6 0x3000_3500E86F8000A9E000000586) ∷
    each "urn:epc:tag:sgcn-96:3.9521141.67890.04711" (words6 0x3000_3F76451FD612640000019907) ∷
    each "urn:epc:tag:cpi-96:3.9521141.98765.12345" (words6 0x3000_3C76451FD400C0E680003039) ∷
    each "urn:epc:tag:sgcn-96:3.4012345.67890.04711" (words6 0x3000_3F74F4E4E612640000019907) ∷
    each "urn:epc:tag:cpi-96:3.0614141.98765.12345" (words6 0x3000_3C74257BF400C0E680003039) ∷ []

-- By hand, since no source has an example of gdti-113: the header, the filter, P, the prefix and the reference in the row's bits, the integer
-- of a 1 and the digits in 58, and 15 zeros, one after the other in binary, and then read as hexadecimal. The first is 00111010 011 101, then
-- 9521141 in 24 bits, 98765 in 17 and 1007 in 58. The integers are 1007, 15, 2 x 10^17 - 1 and 10123; times 8000h, for the 15 zeros, they end
-- the codes: 3EFh x 8000h is 1F78000h.
unfoldable pub by_hand : List Known
by_hand =
    -- leading zeros
    each "urn:epc:tag:gdti-113:3.9521141.98765.007" (words8 0x4000_3A76451FD7039A000000000001F78000) ∷
    -- one digit
    each "urn:epc:tag:gdti-113:0.952114.123456.5" (words8 0x4000_3A1BA1CC83C480000000000000078000) ∷
    -- seventeen nines
    each "urn:epc:tag:gdti-113:7.9521141.98765.99999999999999999" (words8 0x4000_3AF6451FD7039B6345785D89FFFF8000) ∷
    -- an empty reference
    each "urn:epc:tag:gdti-113:3.952114100001..0123" (words8 0x4000_3A6376B9B0DC84000000000013C58000) ∷
    -- and sgcn-96 with all its twelve digits: nines, so that the integer, 1D1A94A1FFFh, ends the 96 bits
    each "urn:epc:tag:sgcn-96:3.9521141.67890.999999999999" (words6 0x3000_3F76451FD61265D1A94A1FFF) ∷ []

-- 001, section 12, lines 5537 and 5543: control bits and an AFI, without the control fields (document 01, "Raw line")
unfoldable pub section12 : List Known
section12 =
    raw (words6 0x3601_1234567890ABCDEF01234567) "urn:epc:raw:96.x1234567890ABCDEF01234567" ∷
    raw (words6 0x31C1_1234567890ABCDEF01234567) "urn:epc:raw:96.xC1.x1234567890ABCDEF01234567" ∷
    bank (words6 0x3601_1234567890ABCDEF01234567) 12 0x16 ∷
    bank (words6 0x31C1_1234567890ABCDEF01234567) 11 0x17 ∷
    bank (words6 0x3000_1234567890ABCDEF01234567) 13 0x20 ∷ []

-- Control fields (document 02, C-13): 001, section 12, lines 5497 (its xpc is none of ours), 5529 and 5534, whose text stands in 000, line 2870;
-- and its order of both fields, which is not ours. Then each field, both, and the largest attribute.
unfoldable pub fields : List Known
fields =
    text "urn:epc:tag:[att=x01][xpc=x0004]:sgtin-96:3.9521141.112345.400" 20 21 ∷
    each "urn:epc:tag:sgtin-96:3.9521141.112345.400" (words6 0x3000_3076451FD46DB64000000190) ∷
    each "urn:epc:tag:[att=x01]:sgtin-96:3.9521141.112345.400" (words6 0x3001_3076451FD46DB64000000190) ∷
    each "urn:epc:tag:[att=x01]:sgtin-96:3.0614141.112345.400" (words6 0x3001_3074257BF46DB64000000190) ∷
    text "urn:epc:tag:[att=x01][umi=1]:sgtin-96:3.9521141.112345.400" 20 21 ∷
    each "urn:epc:tag:[umi=1][att=x01]:sgtin-96:3.9521141.112345.400" (words6 0x3401_3076451FD46DB64000000190) ∷
    each "urn:epc:tag:[umi=1]:gid-96:952056.2718.1414" (words6 0x3400_3500E86F8000A9E000000586) ∷
    each "urn:epc:tag:[att=xFF]:sscc-96:3.0614141.1234567890" (words6 0x30FF_3174257BF4499602D2000000) ∷
    each "urn:epc:tag:[umi=1][att=xA0]:sgtin-198:0.0614141.812345.a.b" (words13 0x6CA0_3614257BF7194E70AEC400000000000000000000000000000000) ∷
    -- a field that is zero, in lower case, cut, without its x, unknown, repeated
    text "urn:epc:tag:[umi=0]:gid-96:1.2.3" 20 12 ∷
    text "urn:epc:tag:[umi=1][att=x00]:gid-96:1.2.3" 20 19 ∷
    text "urn:epc:tag:[att=xff]:gid-96:1.2.3" 20 12 ∷
    text "urn:epc:tag:[umi=1][att=x0" 20 19 ∷
    text "urn:epc:tag:[att=01]:gid-96:1.2.3" 20 12 ∷
    text "urn:epc:tag:[afi=x01]:gid-96:1.2.3" 20 12 ∷
    text "urn:epc:tag:[umi=1][umi=1]:gid-96:1.2.3" 20 19 ∷
    text "urn:epc:tag:[umi=1][att=x01][att=x02]:gid-96:1.2.3" 20 28 ∷
    -- no colon; a text of fields alone; a name and parts behind them
    text "urn:epc:tag:[umi=1]gid-96:1.2.3" 20 19 ∷
    text "urn:epc:tag:[umi=1][att=x01]" 20 28 ∷
    text "urn:epc:tag:[umi=1][att=x01]:" 3 29 ∷
    text "urn:epc:tag:[att=x01]:[umi=1]:gid-96:1.2.3" 3 22 ∷
    text "urn:epc:tag::gid-96:1.2.3" 3 12 ∷
    text "urn:epc:tag:[umi=1]:gid-96:1.2.x" 7 31 ∷
    -- bit 16h alone, and with all others but the toggle
    bank (words6 0x3200_3500E86F8000A9E000000586) 12 0x16 ∷
    bank (words6 0x36FF_3500E86F8000A9E000000586) 12 0x16 ∷ []

-- Places, counted by hand (document 02, C-12). A part that is missing has the offset where it would begin; 15 has its first bit that is 1, and
-- 19 the first bit of the string, whichever group is wrong.
unfoldable pub places : List Known
places =
    text "urn:epc:id:sgtin:0614141.812345.6789" 2 0 ∷
    text "urn:epc:tag:sgtin-97:3.0614141.812345.6789" 3 12 ∷
    text "urn:epc:tag:sgtin-96:" 4 21 ∷
    text "urn:epc:tag:sgtin-96:3." 5 23 ∷
    text "urn:epc:tag:gid-96:268435456.1.1" 5 19 ∷
    text "urn:epc:tag:grai-96:3.0614141.1234.5678" 6 30 ∷
    text "urn:epc:tag:sscc-96:3.0614141." 6 30 ∷
    text "urn:epc:tag:gid-96:1.16777216.1" 6 21 ∷
    text "urn:epc:tag:sgtin-198:0.0614141.812345." 7 39 ∷
    text "urn:epc:tag:giai-96:3.0614141.05" 7 30 ∷
    text "urn:epc:tag:gid-96:1.2.68719476736" 8 23 ∷
    -- thirteen bytes of fourteen
    bank (numeral 256 13 0x3000_3074257BF7194E4000001A) 9 13 ∷
    -- two of the 24 zero bits, and the last fill bit
    bank (words6 0x3000_3174257BF4499602D2000101) 15 0x77 ∷
    bank (words13 0x6800_3614257BF7194E70AEC400000000000000000000000000000001) 15 0xEF ∷
    -- the last group of a string, and an integer of 2
    bank (words13 0x6800_3614257BF7194E70AEC400000000000000000000000000000400) 19 0x5A ∷
    bank (words6 0x3000_3F76451FD612640000000002) 19 0x57 ∷ []

-- Long chips (document 02, C-15), by hand: the word count, and zeros behind the code. Row 1 in 8 words and in 7; row 6 in 31, all 64 bytes; row 5 in 7,
-- whose zeros begin before the sixth word ends. Then a one bit at either end of the further words, and the first of two; fewer words than the scheme
-- needs, which is row 14 too; and the words asked for.
unfoldable pub long_chips : List Known
long_chips =
    long "urn:epc:tag:sgtin-96:3.0614141.812345.6789" 8 (words8 0x4000_3074257BF7194E4000001A85_00000000) ∷
    long "urn:epc:tag:[umi=1]:sgtin-96:3.0614141.812345.6789" 7 (numeral 256 16 0x3C00_3074257BF7194E4000001A85_0000) ∷
    long "urn:epc:tag:sgtin-96:3.0614141.812345.6789" 6 (words6 0x3000_3074257BF7194E4000001A85) ∷
    long "urn:epc:tag:sgtin-198:0.0614141.812345.a.b" 31 (words31 0xF800_3614257BF7194E70AEC400000000000000000000000000000000_000000000000000000000000000000000000000000000000000000000000000000000000) ∷
    long "urn:epc:tag:sscc-96:3.0614141.1234567890" 7 (numeral 256 16 0x3800_3174257BF4499602D2000000_0000) ∷
    bank (words8 0x4000_3074257BF7194E4000001A85_80000000) 15 0x80 ∷
    bank (words8 0x4000_3074257BF7194E4000001A85_00000001) 15 0x9F ∷
    bank (words8 0x4000_3174257BF4499602D2000001_00000001) 15 0x7F ∷
    bank (words31 0xF800_3614257BF7194E70AEC400000000000000000000000000000000_000000000000000000000000000000000000000000000000000000000000000000000001) 15 0x20F ∷
    bank (words6 0x3000_3A76451FD7039A0000000000) 14 0x10 ∷
    asked 32 "" 21 0 ∷
    asked 32 "urn:epc:tag:sgtin-96:3.0614141.812345.6789" 21 0 ∷
    asked 255 "urn:epc:tag:sgtin-96:3.0614141.812345.6789" 21 0 ∷
    asked 5 "urn:epc:tag:sgtin-96:3.0614141.812345.6789" 22 0 ∷
    asked 12 "urn:epc:tag:sgtin-198:0.0614141.812345.a.b" 22 0 ∷
    asked 1 "urn:epc:tag:sgtin-96:3.0614141.812345.274877906944" 8 38 ∷ []

pub known_tags : (map gives rows1to14 ≡ map expected rows1to14) × (map gives annex ≡ map expected annex) × (map gives by_hand ≡ map expected by_hand) × (map gives section12 ≡ map expected section12) × (map gives fields ≡ map expected fields) × (map gives places ≡ map expected places) × (map gives long_chips ≡ map expected long_chips)
unfolding rows1to14 annex by_hand section12 fields places long_chips gives expected words6 words8 words11 words13 words31 blank text_to_bank bank_to_text raw_line bank_of_text tag_of_text value_in tag_of_bank raw_of_bank raw_text bank_of text_of gather value numeral spread size_in size shortest schemes rows table_a1 escaped start
known_tags = (refl, refl, refl, refl, refl, refl, refl)
