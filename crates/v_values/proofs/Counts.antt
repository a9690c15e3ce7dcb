-- How many writes targets make.
use Rattle.std.proofs.Common.{◌≡◌, ◌+◌, ap, sym, ◌∙◌, refl, ℕ, List, [], ◌∷◌, map, Bool}
use Rattle.v_meaning.specs.Designs.{total}
use Rattle.v_core.specs.declared.typed.Typed.{Typed}
use Rattle.v_core.specs.declared.statement.TypedTarget.{TypedTarget}
use Rattle.v_core.specs.declared.statement.TypedTarget.TheVariants as t
use Rattle.v_core.specs.declared.statement.TypedTarget.TheOpen as o
use Rattle.v_core.specs.declared.statement.TypedTarget.TheFolds.{fold-roll-TypedTarget}
use Rattle.v_values.specs.Queues.{write_counts, write_count, write_count_step}

pub part_count : (x : TypedTarget) (name at low w : ℕ) → x ≡ t.Part name at low w → write_count x ≡ 1
part_count x name at low w is = ap write_count (is ∙ sym (t.rolls-Part name at low w)) ∙ fold-roll-TypedTarget ℕ write_count_step (o.Part name at low w)

pub select_count : (x : TypedTarget) (name at bits w : ℕ) (s : Bool) (index : Typed) → x ≡ t.Select name at bits w s index → write_count x ≡ 1
select_count x name at bits w s index is =
    ap write_count (is ∙ sym (t.rolls-Select name at bits w s index)) ∙ fold-roll-TypedTarget ℕ write_count_step (o.Select name at bits w s index)

counts_map : (parts : List TypedTarget) → total (map write_count parts) ≡ write_counts parts
counts_map [] = refl
counts_map (x ∷ xs) = ap (λ (n : ℕ). write_count x + n) (counts_map xs)

pub concat_count : (x : TypedTarget) (parts more : List TypedTarget) → x ≡ t.Concat parts → more ≡ parts → write_count x ≡ write_counts more
concat_count x parts more is p =
    ap write_count (is ∙ sym (t.rolls-Concat parts)) ∙ fold-roll-TypedTarget ℕ write_count_step (o.Concat parts) ∙ counts_map parts ∙ ap write_counts (sym p)
