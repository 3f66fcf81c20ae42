-- The bank of a tag as it is written: the control word and the header, the bits of the parts behind them, and zeros to the end of the last word.
use Prim.Native.Nat.{ℕ, ◌+◌, ◌-◌, ◌*◌, ◌≤◌}
use mathlib.Core.Path.{◌≡◌, sym, ap, ◌∙◌}
use mathlib.Core.List.{List, ◌++◌, append_assoc}
use native.Mathlib.Omega.{arith}
use lib.ListN.{length, drop, replicate, length-append, length-replicate}
use lib.Dec.{lit≤, lit<}
use Rattle.std.specs.Borrow.{MutBor}
use Rattle.numeral.specs.Numeral.{numeral, gather}
use Rattle.numeral.proofs.Values.{length_numeral, numeral_nil}
use Rattle.rules.specs.declared.ControlFields.{ControlFields}
use Rattle.rules.specs.Schemes.{about}
use Rattle.rules.specs.ControlFields.{ControlFits}
use Rattle.rules.specs.Grammar.{layout, Tag}
use Rattle.rules.specs.Coding.{binary, coded, control_bits, bits_of, bank_size, bank_of, EnoughWords}
use Rattle.rules.proofs.Codes.{sizes, content, content_length}
use Rattle.rules.proofs.Banks.{bank_length}
use Rattle.bits.specs.declared.Stream.{Stream}
use Rattle.bits.specs.declared.Writer.{Writer}
use Rattle.bits.specs.Streams.{Streamed, Begins, Adds}
use Rattle.bits.proofs.Pushes.{join}
use Rattle.bits.proofs.Streams.{counted, kept, continued, ended}
use Rattle.scheme.specs.declared.outlines.Outline.{Outline}
use Rattle.scheme.specs.declared.record.Record.{Record}
use Rattle.scheme.specs.Outlines.{outline_of}
use Rattle.scheme.specs.Records.{record_of, RecordIs}
use Rattle.bank.specs.Writing.{Room, start_bits, Keeps, packed, ZerosFit, zeros_to}
use Rattle.numeral.proofs.Splices.{splice_front}
use Rattle.bank.proofs.Rooms.{left}
use Rattle.bank.proofs.PackedParts.{tag_packs}
use Rattle.bank.proofs.PackedZeros.{zeros_are}

-- The control word: five bits, one, two zeros and eight.
pub control_is : (W : ℕ) (c : ControlFields) → ControlFits c → numeral 2 16 (W * 2048 + c.umi * 1024 + c.att) ≡ binary 5 W ++ control_bits c
control_is W c fits =
    let a = c.att in
    let u = c.umi in
    let eight : replicate 2 0 ++ binary 8 a ≡ numeral 2 10 (0 * 256 + a) = ap (◌++ binary 8 a) (sym (zeros_are 2)) ∙ join 2 8 0 a (omega (arith, fits.1)) in
    let one : binary 1 u ++ numeral 2 10 (0 * 256 + a) ≡ numeral 2 11 (u * 1024 + (0 * 256 + a)) = join 1 10 u (0 * 256 + a) (omega (arith, fits.1)) in
    let word = join 5 11 W (u * 1024 + (0 * 256 + a)) (omega (arith, fits)) in
    let sum : W * 2048 + u * 1024 + a ≡ W * 2048 + (u * 1024 + (0 * 256 + a)) = omega arith in
    ap (numeral 2 16) sum ∙ sym (ap (binary 5 W ++◌) (ap (binary 1 u ++◌) eight ∙ one) ∙ word)

-- behind the start there is room for all parts
pub start_leaves : (W header : ℕ) (c : ControlFields) {w v : Writer} → Room w 248 → Adds w (start_bits W header c) v → Room v 224
start_leaves W header c h a = left a h (simp (length-append, length_numeral) (lit≤ tt))

-- what is written from the start on
from_start : {out : MutBor (List ℕ)} {w v : Writer} {ds : List ℕ} → Begins out w → Adds w ds v → Streamed out.now 0 ds v.out.now v.stream
from_start b a = rw (b.bytes, b.start, numeral_nil 2 0) at a.written

-- a writer that begins has room for all parts
pub start_room : {out : MutBor (List ℕ)} {w : Writer} → Begins out w → 64 ≤ length out.now → Room w 248
start_room b long = record { sound = rw b.start (record { few = lit< tt; clear = lit< tt }); room = rw (b.start, b.bytes) (omega (arith, long)) }

-- A tag in W words: the zeros go from where its parts end to the end of the last of them.
module _ {r : Record} {τ : Tag} (h : RecordIs r τ) {o : Outline} (e : o ≡ outline_of r.scheme) {W : ℕ} (enough : EnoughWords W r.scheme) where
  outline : o ≡ outline_of τ.scheme
  unfolding record_of
  outline = e ∙ ap (λ (q : Record). outline_of q.scheme) h.same

  control_kept : r.control ≡ τ.control
  unfolding record_of
  control_kept = ap (λ (q : Record). q.control) h.same

  pub fields_fit : ControlFits r.control
  fields_fit = rw control_kept h.fits.control

  fits_tag : EnoughWords W τ.scheme
  unfolding record_of
  fits_tag = rw h.same at enough

  pub keeps : Keeps o.parts r
  keeps = rw outline (tag_packs r τ h).0

  body : List ℕ
  body = coded (layout τ.scheme) τ.parts

  body_is : packed o.parts r ≡ body
  unfolding body
  body_is = rw outline (tag_packs r τ h).1

  -- the bits before the fill
  bits : List ℕ
  bits = start_bits W o.header r.control ++ body

  bits_long : length bits ≡ 24 + content τ.scheme
  unfolding body bits
  bits_long = simp (length-append, length_numeral, length-replicate, content_length τ.scheme h.fits.parts)

  bits_inside : 24 + content τ.scheme ≤ 8 * bank_size W
  bits_inside = omega (arith, fits_tag.0, (sizes τ.scheme).whole, (sizes τ.scheme).inside)

  -- and with them, which are as many as are left of the words
  bits_are : (k : ℕ) → length bits + k ≡ 8 * bank_size W → bits ++ replicate k 0 ≡ bits_of W τ.scheme τ.control τ.parts
  unfolding body bits
  bits_are k f =
      let start = binary 8 (about τ.scheme).header in
      let n : k ≡ 16 * W - length (start ++ body) = rw (length-append start, length_numeral, content_length τ.scheme h.fits.parts) (omega (arith, bits_long)) in
      rw (n, outline, ← control_kept) (simp append_assoc)

  module _ {out : MutBor (List ℕ)} {w v : Writer} (b : Begins out w) (a : Adds w (start_bits W o.header r.control ++ packed o.parts r) v) where
    abbrev t : Stream
    t = v.stream

    so_far : Streamed out.now 0 bits v.out.now t
    unfolding bits
    so_far = rw body_is at (from_start b a)

    fill : length bits + zeros_to (bank_size W) t ≡ 8 * bank_size W
    fill = omega (arith, counted so_far.written, bits_long, bits_inside)

    pub takes_zeros : (n : ℕ) → n ≡ bank_size W → 64 ≤ length out.now → ZerosFit v n
    takes_zeros n size long = record {
      sound = a.written.sound;
      before = omega (arith, counted so_far.written, bits_long, bits_inside);
      inside = omega (arith, kept so_far.written, fits_tag.1);
      few = omega (arith, fits_tag.1);
    }

    bank_is : gather 2 8 (bank_size W) (bits ++ replicate (zeros_to (bank_size W) t) 0) ≡ bank_of W τ
    unfolding bank_of
    bank_is = rw (bits_are (zeros_to (bank_size W) t) fill)

    pub ends : (n : ℕ) → n ≡ bank_size W → {u : Writer} → Adds v (replicate (zeros_to n t) 0) u
        → (n ≡ length (bank_of W τ)) × (u.out.now ≡ bank_of W τ ++ drop (length (bank_of W τ)) out.now)
    ends n size z =
        let zeros : List ℕ = replicate (zeros_to (bank_size W) t) 0 in
        let all : length (bits ++ zeros) ≡ 8 * bank_size W = rw (length-append bits, length-replicate) fill in
        let stored = (ended (continued so_far zeros (rw size at z.written)) (bank_size W) all).0 in
        (size ∙ sym (bank_length W τ), stored ∙ rw bank_is (splice_front out.now (bank_of W τ)))
