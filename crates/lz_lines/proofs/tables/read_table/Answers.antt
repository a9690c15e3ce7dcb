use Rattle.std.proofs.Common.{◌≡◌, ◌≤◌, ◌<◌, ◌^◌, refl, subst, arith, []}
use Rattle.lz_lines.specs.Fields.{AreNumbers, IsHex, IsNumber, greatest}
use Rattle.lz_lines.specs.Forms.{Anything, Breaks, Done, EndNumbers, Parted, Takes}
use Rattle.lz_lines.proofs.Forms.{after_breaks, after_same, after_takes, after_then, done_takes, then_broken}
use Rattle.lz_lines.proofs.Standing.{hand_broken, hand_on}
use Rattle.lz_lines.proofs.TableFields.{Behind, Bits, Counted, bits_end, bits_some, counted_parted, counted_some, table_after, table_fits}
use Rattle.lz_lines.proofs.tables.read_table.Goals as goal

pub returns-in_err-count : goal.returns-in_err-count
returns-in_err-count c =
    hand_broken _ _ _ _ _ c.from_residual.result _ c.from_residual.ensures.1
    (after_breaks (table_after c.args.most c.args.bytes.now) (then_broken (IsNumber 0 c.args.most) Parted Counted Anything (λ count text is. counted_some count) (λ a v text behind is d. counted_parted a v text behind is) c.in_err-count.ensures.reads))

pub returns-in_err-rest : goal.returns-in_err-rest
returns-in_err-rest c =
    let count = c.in_ok-count.count in
    let one = after_then (IsNumber 0 c.args.most) Parted Counted (table_after c.args.most c.args.bytes.now) (λ a v text behind is d. counted_parted a v text behind is) c.in_ok-count.ensures.reads in
    hand_on _ _ _ _ _ _ _ _ _ _ c.from_residual-in_err-rest.result c.read_numbers.result _ c.from_residual-in_err-rest.ensures.1 c.in_err-rest.was c.read_numbers.ensures.reads
    (λ l b. after_breaks one (then_broken (AreNumbers count count greatest) (EndNumbers count) (Behind count) Anything (bits_some count) (λ a v text behind is d. bits_end count a v text behind is) b))

pub returns-in_err-table : goal.returns-in_err-table
returns-in_err-table c =
    let count = c.in_ok-count.count in
    let ns = c.read_numbers.new.numbers.items in
    let one = after_then (IsNumber 0 c.args.most) Parted Counted (table_after c.args.most c.args.bytes.now) (λ a v text behind is d. counted_parted a v text behind is) c.in_ok-count.ensures.reads in
    let two = after_then (AreNumbers count count greatest) (EndNumbers count) (Behind count) one (λ a v text behind is d. bits_end count a v text behind is) c.in_ok-rest.ensures.reads in
    let three = after_same (Bits count ns) two (λ v t is. (c.in_ok-rest.ensures.found.0.0, is)) (λ v t is. is.1) in
    let broken = subst (λ w. Breaks (IsHex w) Anything c.in_ok-rest.rest.now c.in_err-table.field-0.0.left) c.table_width.ensures c.in_err-table.ensures.reads in
    hand_broken _ _ _ _ _ c.from_residual-in_err-table.result _ c.from_residual-in_err-table.ensures.1
    (after_breaks three (then_broken (IsHex (2 ^ count)) Anything (λ table. Done (ns, table)) Anything (λ a text is. ((ns, a), [], (refl, refl))) (λ a v text behind is d. tt) broken))

pub overflow_cast-result : goal.overflow_cast-result
overflow_cast-result c =
    let few : c.in_ok-count.count ≤ 6 = omega (arith, c.in_ok-count.ensures.found.1, c.requires) in
    let small : c.in_ok-table.table < 2 ^ 64 = table_fits c.in_ok-table.table c.table_width.result c.in_ok-count.count few c.table_width.ensures c.in_ok-table.ensures.found.0 in
    omega (arith, small)

pub returns : goal.returns
returns c =
    let count = c.in_ok-count.count in
    let ns = c.read_numbers.new.numbers.items in
    let one = after_then (IsNumber 0 c.args.most) Parted Counted (table_after c.args.most c.args.bytes.now) (λ a v text behind is d. counted_parted a v text behind is) c.in_ok-count.ensures.reads in
    let two = after_then (AreNumbers count count greatest) (EndNumbers count) (Behind count) one (λ a v text behind is d. bits_end count a v text behind is) c.in_ok-rest.ensures.reads in
    let three = after_same (Bits count ns) two (λ v t is. (c.in_ok-rest.ensures.found.0.0, is)) (λ v t is. is.1) in
    let hex_ = subst (λ w. Takes (IsHex w) Anything c.in_ok-rest.rest.now c.in_ok-table.table c.in_ok-table.rest.now) c.table_width.ensures c.in_ok-table.ensures.reads in
    let four = after_then (IsHex (2 ^ count)) Anything (λ table. Done (ns, table)) three (λ a v text behind is d. tt) hex_ in
    after_takes four (done_takes Anything (ns, c.in_ok-table.table) c.in_ok-table.rest.now)
