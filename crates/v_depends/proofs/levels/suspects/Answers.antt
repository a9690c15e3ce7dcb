use Rattle.std.proofs.Common.{◌≡◌, ◌≤◌, ◌<◌, ℕ, List, true, get_or, slice_index_or, subst, sym, take, ◌∙◌, arith}
use Rattle.std.proofs.lemmas.List.Elements.{All-more, All-weaker}
use Rattle.v_depends.specs.Nodes.{is_marked}
use Rattle.v_depends.proofs.Gathering.{all_edges}
use Rattle.v_depends.proofs.levels.suspects.Goals as goal

pub loop-edge-preserved : goal.loop-edge-preserved
loop-edge-preserved c =
    let level = λ (n : ℕ). slice_index_or c.in_ok-levels.levels.items n 0 in
    let e = get_or c.args.edges.now c.loop-edge.edge-index (0, 0) in
    record {
      long = c.mark_flat.ensures.long ∙ c.loop-edge.invariant.long;
      flat = All-more (λ (e : ℕ × ℕ). level e.0 ≤ level e.1 → e.0 < c.args.count → is_marked c.mark_flat.new.marks e.0 ≡ true) c.args.edges.now c.loop-edge.edge-index (0, 0) c.loop-edge-test.true
          (All-weaker (λ (e : ℕ × ℕ). level e.0 ≤ level e.1 → e.0 < c.args.count → is_marked c.loop-edge.marks e.0 ≡ true)
          (λ (e : ℕ × ℕ). level e.0 ≤ level e.1 → e.0 < c.args.count → is_marked c.mark_flat.new.marks e.0 ≡ true)
          (λ e h even below. c.mark_flat.ensures.keeps e.0 (h even below)) (take c.loop-edge.edge-index c.args.edges.now) c.loop-edge.invariant.flat)
          (λ even below. c.mark_flat.ensures.flat (subst (λ (l : List ℕ). slice_index_or l e.0 0 ≤ slice_index_or l e.1 0) (sym c.as_slice.ensures.value) even) (omega (arith, c.loop-edge.invariant.long)));
    }

pub returns : goal.returns
returns c =
    let level = λ (n : ℕ). slice_index_or c.in_ok-levels.levels.items n 0 in
    record {
      level = level;
      falls = c.in_ok-levels.ensures;
      flat = all_edges (λ (e : ℕ × ℕ). level e.0 ≤ level e.1 → e.0 < c.args.count → is_marked c.loop-edge.marks e.0 ≡ true) c.args.edges.now c.loop-edge.edge-index c.loop-edge-test.false
          c.loop-edge.invariant.flat;
    }
