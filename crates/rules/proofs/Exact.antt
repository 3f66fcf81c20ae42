-- Demand 3: the texts taken, the banks shown, and that each bank belongs to one text together with its W (document 02, C-15).
use Prim.Native.Nat.{ℕ}
use mathlib.Core.Path.{◌≡◌, refl, sym, ◌∙◌, ap}
use mathlib.Core.Logic.{◌↔◌}
use mathlib.Core.List.{List}
use Rattle.numeral.specs.Numeral.{Digits}
use Rattle.rules.specs.Answers.{number_of}
use Rattle.rules.specs.Grammar.{Tag, TagText, text_of}
use Rattle.rules.specs.Coding.{bank_of, within, word_count, EnoughWords, TagBank}
use Rattle.rules.specs.TextNumbers.{tag_of_text, text_number}
use Rattle.rules.specs.BankNumbers.{tag_of_bank, bank_number}
use Rattle.rules.specs.Conditions.{text_rules, bank_rules}
use Rattle.rules.proofs.Answers.{right_of}
use Rattle.rules.proofs.TextReads
use Rattle.rules.proofs.Banks
use Rattle.rules.proofs.BankReads

-- the texts taken are those of the grammar
pub texts : (t : List ℕ) → (text_number t ≡ 0) ↔ ((τ : Tag) × TagText t τ)
unfolding text_number
texts t = (taken, λ (τ, r). rw (TextReads.tag_of t τ r))
  where
    taken : number_of (tag_of_text t) ≡ 0 → (τ : Tag) × TagText t τ
    taken e = let (τ, _, r) = right_of (text_rules t) (TagText t) (tag_of_text t) (TextReads.tag_reads t) e in (τ, r)

-- each divides into its parts in one way only
pub one_division : (t : List ℕ) (τ τ' : Tag) → TagText t τ → TagText t τ' → τ ≡ τ'
one_division t τ τ' r r' = cc (TextReads.tag_of t τ r, TextReads.tag_of t τ' r')

-- a bank of bytes shows a tag exactly if it is that tag's bank, up to the last word that its length field names
shown : (b : List ℕ) → Digits 256 b → (bank_number b ≡ 0) ↔ ((W : ℕ) × (τ : Tag) × TagBank b W τ)
unfolding bank_number
shown b d = (taken, λ (W, τ, r). rw (Banks.tag_of b W τ r))
  where
    taken : number_of (tag_of_bank b) ≡ 0 → (W : ℕ) × (τ : Tag) × TagBank b W τ
    taken e =
        let (τ, _, r) = right_of (bank_rules b) (Banks.Shown b) (tag_of_bank b) (BankReads.bank_reads b) e in
        (word_count b, τ, Banks.shown_bank b τ d r)

pub one_tag : (b : List ℕ) (W W' : ℕ) (τ τ' : Tag) → TagBank b W τ → TagBank b W' τ' → (W ≡ W') × (τ ≡ τ')
one_tag b W W' τ τ' r r' = (sym (Banks.words_of b W τ r) ∙ Banks.words_of b W' τ' r', cc (Banks.tag_of b W τ r, Banks.tag_of b W' τ' r'))

-- a text of the grammar and a W from its scheme's count to 31, which it encodes with
pub record Pair (t : List ℕ) (W : ℕ) (τ : Tag) : Type 0 where
  pub text : TagText t τ
  pub enough : EnoughWords W τ.scheme

-- the banks shown are exactly those that such a text encodes to with such a W
pub banks : (b : List ℕ) → Digits 256 b → (bank_number b ≡ 0) ↔ ((t : List ℕ) × (W : ℕ) × (τ : Tag) × Pair t W τ × (within b ≡ bank_of W τ))
banks b d = (encoded, λ (t, W, τ, r, e). (shown b d).1 (W, τ, record { fits = r.text.fits; enough = r.enough; bank = e }))
  where
    encoded : bank_number b ≡ 0 → (t : List ℕ) × (W : ℕ) × (τ : Tag) × Pair t W τ × (within b ≡ bank_of W τ)
    encoded e =
        let (W, τ, r) = (shown b d).0 e in
        (text_of τ, W, τ, record { text = record { fits = r.fits; text = refl }; enough = r.enough }, r.bank)

-- no two such pairs share a bank
pub one_text : (t t' : List ℕ) (W W' : ℕ) (τ τ' : Tag) → Pair t W τ → Pair t' W' τ' → bank_of W τ ≡ bank_of W' τ' → (t ≡ t') × (W ≡ W')
one_text t t' W W' τ τ' r r' e =
    let (w, q) = one_tag (bank_of W τ) W W' τ τ' (Banks.own_bank W τ r.enough r.text.fits) (rw (← e) at (Banks.own_bank W' τ' r'.enough r'.text.fits)) in
    (r.text.text ∙ ap text_of q ∙ sym r'.text.text, w)

-- no two banks that differ within their words share a pair
pub one_bank : (b b' t : List ℕ) (W : ℕ) (τ τ' : Tag) → TagBank b W τ → TagBank b' W τ' → t ≡ text_of τ → t ≡ text_of τ' → within b ≡ within b'
one_bank b b' t W τ τ' r r' e e' =
    let q = one_division t τ τ' (record { fits = r.fits; text = e }) (record { fits = r'.fits; text = e' }) in
    r.bank ∙ ap (bank_of W) q ∙ sym r'.bank
