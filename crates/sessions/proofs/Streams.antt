-- What is known of a reader's bytes, and of a writer's, over several reads and writes.
use Rattle.std.proofs.Common.{◌≡◌, ℕ, ◌-◌, ◌≤◌, List, [], ◌++◌, None, Some, IfSome, subst, refl, sym, ap, ◌∙◌, append_assoc, append-nil, arith, length-drop}
use lib.ListN.{length, take, drop, drop_of_length-le}
use Rattle.std.proofs.Math.Seq.{length-take-le, drop_at}
use borrow.Rule.Slice.PartMut.{post_of}
use Rattle.std.specs.Prelude.{Option}
use Rattle.std.specs.Io.KnownBytes.{Appends, Consumes, IsAtEnd}
use Rattle.replies.proofs.Pieces.{back}

pub consumes_nothing : (a : Option (List ℕ)) → Consumes a a []
consumes_nothing None = tt
consumes_nothing (Some x) = refl

pub appends_nothing : (a : Option (List ℕ)) → Appends a a []
appends_nothing None = tt
appends_nothing (Some x) = sym (append-nil x)

pub appends_then : (a b c : Option (List ℕ)) (x y : List ℕ) → Appends a b x → Appends b c y → Appends a c (x ++ y)
appends_then None b c x y p q = tt
appends_then (Some u) None c x y p q = absurd p
appends_then (Some u) (Some v) None x y p q = absurd q
appends_then (Some u) (Some v) (Some w) x y p q = q ∙ ap (◌++ y) p ∙ append_assoc u x y

pub consumes_then : (a b c : Option (List ℕ)) (x y : List ℕ) → Consumes a b x → Consumes b c y → Consumes a c (x ++ y)
consumes_then None b c x y p q = tt
consumes_then (Some u) None c x y p q = absurd p
consumes_then (Some u) (Some v) None x y p q = absurd q
consumes_then (Some u) (Some v) (Some w) x y p q = p ∙ ap (x ++◌) q ∙ sym (append_assoc x y w)

-- a reader that is at its end gave all that it had
pub consumes_all : (a b : Option (List ℕ)) (x : List ℕ) (P : List ℕ → Type 0) → Consumes a b x → IsAtEnd b → P x → IfSome a P
consumes_all None b x P p q h = tt
consumes_all (Some u) None x P p q h = absurd p
consumes_all (Some u) (Some v) x P p q h = subst P (sym (p ∙ ap (x ++◌) q ∙ append-nil x)) h

-- what stands behind the first n bytes is what was put there
pub behind_is : (n : ℕ) (l e : List ℕ) → n ≤ length l → drop n (back l n e) ≡ e
behind_is n l e h =
    let k : length (drop n l) ≤ length l - n = simp length-drop (omega arith) in
    let z : post_of n (length l - n) l ≡ [] = drop_of_length-le (drop n l) k in
    drop_at (take n l) (e ++ post_of n (length l - n) l) n (length-take-le n l h) ∙ ap (e ++◌) z ∙ append-nil e
