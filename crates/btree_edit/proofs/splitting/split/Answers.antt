use Rattle.std.specs.List.{sum_by}
use Rattle.std.proofs.Common.{inl, inr, IsTrue, false, ◌≡◌, ◌≤◌, ◌+◌, ◌++◌, ℕ, length, take, arith, ap, ◌∙◌}
use Rattle.std.proofs.lemmas.List.{take-append-drop, drop_all, length-take, length-drop}
use Rattle.btree_node.specs.Node.{items, kind_of, IsNodeSize}
use Rattle.btree_edit.specs.Halves.{put_of, with_put}
use Rattle.btree_edit.specs.LevelEdit.{taken}
use Rattle.btree_edit.proofs.Cuts.{taken-put, taken-cut, length-put, length-put_of, front_fits, back_fits, front_some, back_some, front_sixth, back_sixth}
use Rattle.btree_edit.proofs.splitting.split.Goals as goal
use Rattle.btree_edit.proofs.splitting.split.Goals.{then-cut-size-via-then-cut-size, then-cut-size-via-else-cut-size+then-total-cut}

never : IsTrue false → ⊥
never is = cc

large : (size : ℕ) → IsNodeSize size → 512 ≤ size
large size is = grind arith

pub middle-cut-requires-clause-total : goal.middle-cut-requires-clause-total
middle-cut-requires-clause-total c = omega (arith, taken-put (items c.args.node.now) c.args.at (put_of c.args.count c.args.first.now c.args.second.now), c.node_taken.ensures.taken, c.put_taken.ensures.taken)

pub overflow_add-cut : goal.overflow_add-cut
overflow_add-cut c =
    let records = with_put (items c.args.node.now) c.args.at (put_of c.args.count c.args.first.now c.args.second.now) in
    omega (arith, c.middle-cut.ensures.front, taken-cut records c.middle-cut.result.at, taken-put (items c.args.node.now) c.args.at (put_of c.args.count c.args.first.now c.args.second.now), c.node_taken.ensures.taken, c.put_taken.ensures.taken, c.put_taken.ensures.small, c.node_taken.type_inv)

pub overflow_sub-total : goal.overflow_sub-total
overflow_sub-total c =
    let records = with_put (items c.args.node.now) c.args.at (put_of c.args.count c.args.first.now c.args.second.now) in
    omega (arith, c.middle-cut.ensures.front, taken-cut records c.middle-cut.result.at, taken-put (items c.args.node.now) c.args.at (put_of c.args.count c.args.first.now c.args.second.now), c.node_taken.ensures.taken, c.put_taken.ensures.taken)

pub returns-then-cut-size-clause-sure : goal.returns-then-cut-size-clause-sure
returns-then-cut-size-clause-sure c over two =
    let records = with_put (items c.args.node.now) c.args.at (put_of c.args.count c.args.first.now c.args.second.now) in
    let size = ap length c.bytes-size.ensures.value in
    let wide = large (length c.args.node.now) c.bytes-size.ensures.size in
    let one = front_fits (length c.args.node.now) c.middle-cut.result.at records wide over two c.middle-cut.ensures.middle in
    let other = back_fits (length c.args.node.now) c.middle-cut.result.at records wide over two c.middle-cut.ensures.middle in
    let front = c.middle-cut.ensures.front in
    let whole : c.node_taken.result + c.put_taken.result ≡ taken records = omega (arith, taken-put (items c.args.node.now) c.args.at (put_of c.args.count c.args.first.now c.args.second.now), c.node_taken.ensures.taken, c.put_taken.ensures.taken) in
    elim c.then-cut-size.branch [
      | then-cut-size-via-then-cut-size w ↦ absurd (omega (arith, w.if-cut-size.true, one, size, front))
      | then-cut-size-via-else-cut-size+then-total-cut w ↦ absurd (omega (arith, w.if-total-cut.true, other, size, front, whole))
    ]

pub fill_back-requires-clause-fits : goal.fill_back-requires-clause-fits
fill_back-requires-clause-fits c =
    let records = with_put (items c.args.node.now) c.args.at (put_of c.args.count c.args.first.now c.args.second.now) in
    omega (arith, c.if-total-cut.false, ap length c.bytes-size.ensures.value, c.middle-cut.ensures.front, taken-cut records c.middle-cut.result.at, taken-put (items c.args.node.now) c.args.at (put_of c.args.count c.args.first.now c.args.second.now), c.node_taken.ensures.taken, c.put_taken.ensures.taken, c.clear.ensures.size, c.requires.other)

pub returns-clause-split : goal.returns-clause-split
returns-clause-split c _ =
    let put = put_of c.args.count c.args.first.now c.args.second.now in
    let records = with_put (items c.args.node.now) c.args.at put in
    let many = length-put (items c.args.node.now) c.args.at put in
    let some = length-put_of c.args.count c.args.first.now c.args.second.now c.requires.few in
    let kind : kind_of c.clear.new.self ≡ c.args.kind = grind (arith, c.clear.ensures.is_node.has_kind) in
    record {
      joined = ap (λ l. l ++ items c.fill_back.new.other) c.keep_front.ensures.items ∙ ap (λ l. take c.middle-cut.result.at records ++ l) c.fill_back.ensures.items ∙ take-append-drop c.middle-cut.result.at records;
      some_front = omega (arith, ap length c.keep_front.ensures.items, length-take c.middle-cut.result.at records, many, some, c.if-cut-eq0.false, c.if-cut-many.false, c.count.ensures);
      some_back = omega (arith, ap length c.fill_back.ensures.items, length-drop c.middle-cut.result.at records, many, some, c.if-cut-many.false, c.count.ensures);
      is_front = record {
        well_formed = c.keep_front.ensures.well_formed;
        has_kind = c.keep_front.ensures.head.kind ∙ c.requires.node.has_kind;
        has_height = c.keep_front.ensures.head.height ∙ c.requires.node.has_height;
      };
      is_back = record {
        well_formed = c.fill_back.ensures.well_formed;
        has_kind = c.fill_back.ensures.head.kind ∙ kind;
        has_height = c.fill_back.ensures.head.height ∙ c.clear.ensures.is_node.has_height;
      };
      head = c.keep_front.ensures.head;
      size = c.fill_back.ensures.head.size ∙ c.clear.ensures.size ∙ c.requires.other;
    }

pub returns-then-cut-size-clause-sixth : goal.returns-then-cut-size-clause-sixth
returns-then-cut-size-clause-sixth c two = absurd (never (returns-then-cut-size-clause-sure c two.over two.fits))

pub returns-then-cut-eq0-clause-sixth : goal.returns-then-cut-eq0-clause-sixth
returns-then-cut-eq0-clause-sixth c two =
    let records = with_put (items c.args.node.now) c.args.at (put_of c.args.count c.args.first.now c.args.second.now) in
    let wide = large (length c.args.node.now) c.bytes-size.ensures.size in
    let front = front_some (length c.args.node.now) c.middle-cut.result.at records wide two.over two.fits c.middle-cut.ensures.middle in
    let back = back_some (length c.args.node.now) c.middle-cut.result.at records wide two.over two.fits c.middle-cut.ensures.middle in
    let put = put_of c.args.count c.args.first.now c.args.second.now in
    let many = length-put (items c.args.node.now) c.args.at put in
    let some = length-put_of c.args.count c.args.first.now c.args.second.now c.requires.few in
    elim c.then-cut-eq0.either [
      | inl none ↦ absurd (omega (arith, wide, front, ap (λ k. taken (take k records)) none))
      | inr all ↦ absurd (omega (arith, wide, back, ap taken (drop_all c.middle-cut.result.at records (omega (arith, many, some, all.1, c.count.ensures)))))
    ]

pub returns-clause-sixth : goal.returns-clause-sixth
returns-clause-sixth c two =
    let put = put_of c.args.count c.args.first.now c.args.second.now in
    let records = with_put (items c.args.node.now) c.args.at put in
    let wide = large (length c.args.node.now) c.bytes-size.ensures.size in
    let front = front_sixth (length c.args.node.now) c.middle-cut.result.at records wide two c.middle-cut.ensures.middle in
    let back = back_sixth (length c.args.node.now) c.middle-cut.result.at records wide two c.middle-cut.ensures.middle in (
      omega (arith, front, c.keep_front.ensures.head.size, ap (λ l. sum_by (λ bytes. length bytes) l) c.keep_front.ensures.items),
      omega (arith, back, c.fill_back.ensures.head.size, c.clear.ensures.size, c.requires.other, ap (λ l. sum_by (λ bytes. length bytes) l) c.fill_back.ensures.items),
    )
