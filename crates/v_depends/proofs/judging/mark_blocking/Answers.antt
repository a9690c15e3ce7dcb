use Rattle.std.proofs.Common.{ℕ, List, [], ◌∷◌, ◌++◌, map, take, ap, subst, ◌∙◌, sym, append_assoc}
use Rattle.std.proofs.lemmas.List.{take_all}
use Rattle.v_uses.specs.declared.gathered.Write.{Write}
use Rattle.v_uses.specs.Gathered.{written_in}
use Rattle.v_depends.specs.Pairs.{blocking_in}
use Rattle.v_depends.specs.Graphs.{AreMarked}
use Rattle.v_depends.proofs.Gathering.{blocking_writes_more, from_next}
use Rattle.v_depends.proofs.judging.mark_blocking.Goals as goal

pub loop-write-preserved : goal.loop-write-preserved
loop-write-preserved c = λ names ons n m.
    let writes = c.as_slice-write-items.result.now in
    let found = blocking_in (map written_in (take c.loop-write.write-index writes)) in
    let next = blocking_in (map written_in (c.write-item.result ∷ [])) in
    subst (AreMarked names c.mark_if_blocking.new.marks)
    (append_assoc ons found next
    ∙ ap (λ (l : List (List ℕ)). ons ++ l)
    (sym (from_next (λ (ws : List Write). blocking_in (map written_in ws)) blocking_writes_more writes c.loop-write.write-index c.write-item.result c.loop-write-test.true c.write-item.is)))
    (c.mark_if_blocking.ensures names (ons ++ found) n (c.loop-write.invariant names ons n m))

pub returns : goal.returns
returns c = λ names ons n m.
    subst (AreMarked names c.loop-write.marks)
    (ap (λ (ws : List Write). ons ++ blocking_in (map written_in ws)) (take_all c.loop-write.write-index c.as_slice-write-items.result.now c.loop-write-test.false ∙ c.as_slice-write-items.ensures))
    (c.loop-write.invariant names ons n m)
