-- The reading is the rules', and what stands behind the filter are the parts of the tag's identity.
use mathlib.Core.Path.{◌≡◌, sym, ap, ◌∙◌}
use lib.ListN.{drop}
use Rattle.std.specs.Prelude.{Err}
use Rattle.std.proofs.lemmas.Result.{err_from_is_err_and}
use Rattle.rules.specs.Answers.{taken, ◌>>=◌}
use Rattle.rules.specs.Grammar.{Tag, TagText}
use Rattle.rules.specs.TextNumbers.{tag_of_text}
use Rattle.rules.specs.Conditions.{text_rules}
use Rattle.rules.specs.Calls.{text_room}
use Rattle.rules.proofs.TextReads.{tag_reads}
use Rattle.rules.proofs.Lengths.{text_length}
use Rattle.scheme.specs.Records.{RecordIs, record_of}
use Rattle.codec.proofs.Ends.{refuses, read_refused, read_taken, text_numbered}
use Rattle.text.proofs.Written.{control_fits}
use Rattle.identities.specs.Grammar.{identity_text}
use Rattle.identities.specs.OfTags.{identity_of}
use Rattle.identities.specs.Calls.{tag_to_identity}
use Rattle.identify.specs.Words.{body_at}
use Rattle.identify.proofs.TagLines.{body_is}
use Rattle.identify.proofs.DirectTags.{Straight, parts_short, identity_put}
use Rattle.identify.proofs.by_record.Goals as goal
use Rattle.identify.proofs.by_record.Goals.{After-body_at-at, In_ok-tag}

pub returns-in_err-tag : goal.returns-in_err-tag
unfolding tag_to_identity
returns-in_err-tag c =
    let a = c.args in
    let t = a.text.now in
    let r = c.in_err-tag.field-0.0 in
    let p = err_from_is_err_and c.from_residual.result c.from_residual.ensures.1 in
    let same : c.from_residual.result ≡ Err r = p.1 ∙ ap Err p.2 in
    let e = read_refused (text_rules t) (text_numbered t) (TagText t) (tag_of_text t) (tag_reads t) r c.in_err-tag.ensures in
    rw same (refuses text_room a.out.now c.requires r (tag_of_text t >>= λ τ. taken (0, identity_text (identity_of τ))) (ap (◌>>= λ τ. taken (0, identity_text (identity_of τ))) e))

-- the tag that was read, from the place where it is
tag : (c : In_ok-tag) → let t = c.args.text.now in
    (τ : Tag) × (tag_of_text t ≡ taken τ) × RecordIs c.in_ok-tag.tag τ
tag c =
    let t = c.args.text.now in
    read_taken (text_rules t) (text_numbered t) (TagText t) (tag_of_text t) (tag_reads t) (λ τ h. h.fits) c.in_ok-tag.tag c.in_ok-tag.ensures

pub body_at-at-requires : goal.body_at-at-requires
body_at-at-requires c = let (τ, _, i) = tag (goal.at.body_at-at-requires c).In_ok-tag in control_fits c.in_ok-tag.tag (record { tag = τ; is = i })

-- where the parts begin, and that they are those of the identity
found : (c : After-body_at-at) → Straight c.args.text.now c.in_ok-tag.tag.scheme c.body_at-at.result
unfolding record_of
found c =
    let t = c.args.text.now in
    let (τ, a, i) = tag (goal.at.After-body_at-at c).In_ok-tag in
    let r : TagText t τ = (rw a at (tag_reads t)).1 in
    let n : c.body_at-at.result ≡ body_at τ.control τ.scheme = c.body_at-at.ensures ∙ ap (λ r. body_at r.control r.scheme) i.same in
    let (l, b) = body_is t τ r in
    record { within = rw n l; tag = τ; reads = a; scheme = sym (ap (λ r. r.scheme) i.same); parts = ap (λ n. drop n t) n ∙ b; short = text_length t τ r }

pub put_identity-length-requires : goal.put_identity-length-requires
put_identity-length-requires c = (parts_short (found (goal.at.put_identity-length-requires c).After-body_at-at), c.requires)

pub slice_bounds-put_identity-count : goal.slice_bounds-put_identity-count
slice_bounds-put_identity-count c = (found (goal.at.slice_bounds-put_identity-count c).After-body_at-at).within

pub slice_bounds-put_identity-start : goal.slice_bounds-put_identity-start
slice_bounds-put_identity-start c = (found (goal.at.slice_bounds-put_identity-start c).After-body_at-at).within

pub returns : goal.returns
returns c =
    identity_put c.args.text.now c.args.out.now c.requires _ _ (found (goal.at.returns c).After-body_at-at) _ _ c.put_identity-length.ensures
