-- A bit reader by its place: the code bit c of the bank b.
use Prim.Native.Nat.{ℕ, ◌+◌}
use mathlib.Core.Path.{◌≡◌, ap, ◌∙◌}
use mathlib.Core.List.{List}
use lib.ListN.{length}
use Rattle.scheme.specs.Counts.{behind_of}
use Rattle.fields.specs.declared.bitreader.BitReader.{BitReader}
use Rattle.fields.specs.BitReaders.{LiesInCode, code_field, reader_of}

pub record Stands (r : BitReader) (b : List ℕ) (c : ℕ) : Type 0 where
  pub bank : r.bank.now ≡ b
  pub place : r.at.0 ≡ c

module _ {r : BitReader} {b : List ℕ} {c : ℕ} (s : Stands r b c) (width : ℕ) where
  -- what it takes lies there, is the number there, and it goes on behind
  pub lies : LiesInCode c width (length b) → LiesInCode r.at.0 width (length r.bank.now)
  lies h = rw (s.bank, s.place) h

  pub number : {v : ℕ} → v ≡ code_field r.bank.now r.at.0 width → v ≡ code_field b c width
  number e = e ∙ rw (s.bank, s.place)

  pub on : {q : BitReader} → q ≡ reader_of r.bank (behind_of r.at width) → Stands q b (c + width)
  on e = record { bank = ap (λ q. q.bank.now) e ∙ s.bank; place = ap (λ q. q.at.0) e ∙ ap (λ n. n + width) s.place }
