-- How long identity's replies are: an identity is shorter than its tag's text, and a tag's text at most seven characters longer than its identity.
use Prim.Native.Nat.{ℕ, suc, ◌+◌, ◌-◌, ◌<◌}
use Prim.Native.Char.{code}
use mathlib.Core.Path.{refl, ap}
use mathlib.Core.List.{List, [], ◌∷◌}
use mathlib.Core.Bool.{Bool, true, false, cond}
use native.Mathlib.Omega.{arith}
use lib.Dec.{leb, lit<, lit≤}
use lib.ListN.{length}
use Rattle.numeral.proofs.Shortest.{size_le}
use Rattle.rules.specs.Answers.{Answer, refused, taken}
use Rattle.rules.specs.Bytes.{bytes}
use Rattle.rules.specs.Conditions.{First, text_rules}
use Rattle.rules.specs.Grammar.{Tag, TagText, text_of}
use Rattle.rules.specs.TextNumbers.{after, tag_of_text}
use Rattle.rules.proofs.Answers.{Reads}
use Rattle.rules.proofs.TextReads.{tag_reads}
use Rattle.rules.proofs.Lengths.{text_length}
use Rattle.identities.specs.Conditions.{identity_rules}
use Rattle.identities.specs.Promises.{Given}
use Rattle.identities.specs.Numbers.{tag_of_identity}
use Rattle.identities.proofs.IdentityReads.{identity_reads}
use Rattle.identities.proofs.Lengths.{shorter, longer}
use Rattle.digits.specs.Starts.{begun}
use Rattle.replies.specs.Replies.{most_characters, reply_n, reply_x}
use Rattle.replies.specs.Identities.{of_tag, of_identity, has_filter, filter_reply, identity_reply}
use Rattle.replies.proofs.Pieces.{decimal_long}
use Rattle.replies.proofs.Refusals.{first_between}
use Rattle.replies.proofs.Sizes.{Short, text_refused}

-- To a tag text.
tag_short : (t : List ℕ) → Short (length t) (of_tag (tag_of_text t))
tag_short t = go (tag_of_text t) (tag_reads t)
  where
    go : (a : Answer Tag) → Reads (text_rules t) (TagText t) a → Short (length t) (of_tag a)
    go (taken τ) h =
        let s = shorter τ h.1.fits in
        let l = text_length t τ h.1 in
        let e = ap length h.1.text in
        (omega arith, omega arith)
    go (refused n i) h = text_refused t n i h.1 h.0

-- To a filter and an identity text: numbers 23 to 25.
identity_refused : (f : ℕ) (t : List ℕ) (n i : ℕ) → 0 < n → First (identity_rules f t) n i → Short (2 + length t) (reply_n n)
unfolding identity_rules
identity_refused f t n i p r =
    let d = decimal_long n in
    let k = size_le 10 (lit< tt) n 2 (lit< tt) (omega (arith, (first_between 23 25 (identity_rules f t) n i (omega arith) p r).1)) in
    (omega arith, omega arith)

identity_short : (f : ℕ) (t : List ℕ) → Short (2 + length t) (of_identity (tag_of_identity f t))
identity_short f t = go (tag_of_identity f t) (identity_reads f t)
  where
    go : (a : Answer Tag) → Reads (identity_rules f t) (Given f t) a → Short (2 + length t) (of_identity a)
    go (taken τ) h =
        let g = h.1.holds in
        let s = longer τ g.fits h.1.control in
        let l = text_length (text_of τ) τ (record { fits = g.fits; text = refl }) in
        let e = ap length g.identity in
        (omega arith, omega arith)
    go (refused n i) h = identity_refused f t n i h.1 h.0

-- To any line.
filter_short : (l : List ℕ) → Short (length l) (filter_reply l)
unfolding has_filter
filter_short [] = (lit≤ tt, lit< tt)
filter_short (d ∷ []) = (lit≤ tt, lit< tt)
filter_short (d ∷ s ∷ t) = go (has_filter (d ∷ s ∷ t))
  where
    go : (b : Bool) → Short (suc (suc (length t))) (cond b (of_identity (tag_of_identity (d - code "0") t)) reply_x)
    go true = let h = identity_short (d - code "0") t in (h.0, omega (arith, h.1))
    go false = (lit≤ tt, omega arith)

pub identity_line : (l : List ℕ) → Short (length l) (identity_reply l)
unfolding identity_reply
identity_line l = go (leb (length l) most_characters) (begun (after (bytes "urn:epc:tag:") l))
  where
    go : (a b : Bool) → Short (length l) (cond a (cond b (of_tag (tag_of_text l)) (filter_reply l)) reply_x)
    go true true = tag_short l
    go true false = filter_short l
    go false b = (lit≤ tt, omega arith)
