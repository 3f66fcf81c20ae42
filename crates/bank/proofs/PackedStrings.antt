-- A string in a stream, some characters after the other.
use Prim.Native.Nat.{ℕ, ◌*◌, ◌≤◌}
use mathlib.Core.Path.{◌≡◌, refl, sym, ap, ◌∙◌}
use mathlib.Core.List.{List, [], ◌++◌, append_assoc, append-nil}
use native.Mathlib.Omega.{arith}
use lib.ListN.{length, take, length-append, length-take}
use Rattle.numeral.specs.Numeral.{value, numeral, Digits, spread}
use Rattle.numeral.proofs.Arithmetic.{pow_mul}
use Rattle.numeral.proofs.Values.{length_numeral, value_lt, digits_take, digits_left, digits_right}
use Rattle.numeral.proofs.Spreads.{length_spread, spread_append}
use Rattle.bits.specs.declared.Writer.{Writer}
use Rattle.bits.specs.Streams.{Takes, Adds}
use Rattle.bits.proofs.Streams.{unstored, takes}
use Rattle.bank.specs.Writing.{Room}
use Rattle.bank.proofs.Rooms.{then}
use Rattle.bank.proofs.Strings.{joined_bits}

-- of the characters, all but those in `rest` are written by w, which is then v
pub record Begun (w : Writer) (characters rest : List ℕ) (v : Writer) : Type 0 where
  pub done : List ℕ
  pub all : characters ≡ done ++ rest
  pub written : Adds w (spread 2 7 done) v

-- the first k characters
module _ {w : Writer} (cs : List ℕ) (k : ℕ) (h : Room w 140) (groups : Digits 128 cs) (most : k ≤ 20) where
  abbrev characters : List ℕ
  characters = take k cs

  pub none_yet : Begun w characters characters w
  unfolding spread
  none_yet = record {
    done = [];
    all = refl;
    written = record {
      output = refl;
      written = rw append-nil (record { sound = h.sound; written = unstored w.out.now w.stream (omega (arith, h.room)) });
    };
  }

  -- the next ones, as one number
  module _ (some rest : List ℕ) (few : length some ≤ 8) {all : List ℕ} {v : Writer} (next : all ≡ some ++ rest) (b : Begun w characters all v) where
    parts : characters ≡ b.done ++ (some ++ rest)
    parts = b.all ∙ ap (λ l. b.done ++ l) next

    pub some_digits : Digits 128 some
    some_digits = digits_left 128 some rest (digits_right 128 b.done (some ++ rest) (rw parts at (digits_take 128 k cs groups)))

    pub takes_next : Takes v.stream (7 * length some) (value 128 some) (length v.out.now)
    takes_next =
        takes b.written.written (7 * length some) (value 128 some) (omega arith) (rw (pow_mul 2 7 (length some)) (value_lt 128 some some_digits))
        (simp (length-append, length_numeral, length_spread) (omega (arith, h.room, ap length parts, length-append {A = ℕ}, length-take k cs)))

    pub some_more : {u : Writer} → Adds v (numeral 2 (7 * length some) (value 128 some)) u → Begun w characters rest u
    some_more a =
        record {
          done = b.done ++ some;
          all = parts ∙ sym (append_assoc b.done some rest);
          written = rw (spread_append 2 7 b.done some, ← joined_bits some some_digits) (then b.written a);
        }
