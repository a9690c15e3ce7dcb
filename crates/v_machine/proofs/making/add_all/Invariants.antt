use Rattle.std.proofs.Common.{◌≡◌, length, drop, map}
use Rattle.v_meaning.specs.Designs.{first_store, open_bits_of, total}
use Rattle.v_meaning.specs.Modules.{firsts_among}
use Rattle.v_machine.proofs.FirstLaws.{behind, extended}
use Rattle.v_machine.proofs.making.add_all.Given as goal

abbrev pub invariant-loop-entry : goal.invariant-loop-entry
invariant-loop-entry l = record {
  many : length l.left ≡ total (map open_bits_of (firsts_among (drop l.entry-index l.names)));
  store : behind l.now.view.store (first_store (firsts_among (drop l.entry-index l.names)) l.left) ≡ behind l.fn.now.view.store (first_store (firsts_among l.names) l.first);
  shape : extended l.now.shape (drop l.entry-index l.names) ≡ extended l.fn.now.shape l.names;
}
