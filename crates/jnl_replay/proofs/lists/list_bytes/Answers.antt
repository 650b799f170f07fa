use Rattle.std.proofs.Common.{length, refl, sym, ◌∙◌, ap, arith, List, ℕ, ◌+◌, ◌-◌, inl, inr}
use Rattle.std.proofs.lemmas.Bool.{iff_false}
use Rattle.sector_disk.specs.Disk.{content}
use Rattle.jnl_format.specs.Dialect.{may_end}
use Rattle.jnl_replay.specs.Text.{words}
use Rattle.jnl_replay.proofs.Filling.{filled}
use Rattle.jnl_replay.proofs.Listing.{short_list, headless_list, unsized_list, unfilled_list, whole_list, sized_to, sized_back}
use Rattle.jnl_replay.proofs.ReadOn.{same_words, tells_then}
use Rattle.jnl_replay.proofs.Texts.{length-words}
use Rattle.jnl_replay.proofs.lists.list_bytes.Goals as goal

pub returns-then-left-header-clause-value : goal.returns-then-left-header-clause-value
returns-then-left-header-clause-value g c tells =
    let s0 = g.D.SectorDisk.state c.args.disk.now in
    let t = c.args.text.now in
    let long = length-words s0 t (g.met.D.SectorDisk.well_formed c.args.disk.now) tells c.requires.text in
    short_list c.args.dialect c.args.volume.now t.order t.blhdr (words t (content s0)) c.args.at (omega (arith, long, c.if-left-header.true, c.from-header.ensures)) (omega (arith, long, c.requires.inside))

pub returns-in-None-clause-value : goal.returns-in-None-clause-value
returns-in-None-clause-value g c tells =
    let s0 = g.D.SectorDisk.state c.args.disk.now in
    let t = c.args.text.now in
    headless_list c.args.dialect c.args.volume.now t.order t.blhdr (words t (content s0)) c.args.at c.read_text.new.into (c.in_ok-read_text.ensures.value tells) c.in-None.ensures

pub returns-then-not-is_sized-clause-value : goal.returns-then-not-is_sized-clause-value
returns-then-not-is_sized-clause-value g c tells =
    let s0 = g.D.SectorDisk.state c.args.disk.now in
    let t = c.args.text.now in
    let w = words t (content s0) in
    let head = c.in-Some.head in
    let long = length-words s0 t (g.met.D.SectorDisk.well_formed c.args.disk.now) tells c.requires.text in
    unsized_list c.args.dialect c.args.volume.now t.order t.blhdr w c.args.at c.read_text.new.into head (c.in_ok-read_text.ensures.value tells) c.in-Some.ensures head.used refl
    (λ p. iff_false c.is_sized.ensures c.if-not-is_sized.true (sized_to c.from-header.result t.blhdr t.length (length w) c.args.at head.used (may_end c.args.dialect head.last) c.from-header.ensures long p))
    (omega (arith, long, c.requires.inside))

pub returns-then-branch-clause-value : goal.returns-then-branch-clause-value
returns-then-branch-clause-value g c tells =
    let s0 = g.D.SectorDisk.state c.args.disk.now in
    let s1 = g.D.SectorDisk.state c.read_text.new.disk in
    let t = c.args.text.now in
    let v = c.args.volume.now in
    let w = words t (content s0) in
    let head = c.in-Some.head in
    let at = c.args.at in
    let long = length-words s0 t (g.met.D.SectorDisk.well_formed c.args.disk.now) tells c.requires.text in
    let reads = c.read_text.ensures.reads in
    whole_list c.args.dialect v t.order t.blhdr w at c.read_text.new.into head (c.in_ok-read_text.ensures.value tells) c.in-Some.ensures c.from-used.result (c.from-entries.result - 1) c.from-used.ensures (ap (λ n. n - 1) c.from-entries.ensures)
    (sym c.if-branch.true ∙ c.in_ok-blocks_are_valid.ensures.value (tells_then s0 s1 reads tells)
    ∙ ap (λ (b : List ℕ). filled v t.order b (at + c.from-used.result) (at + 32) (at + c.from-header.result) (c.from-entries.result - 1)) (same_words t s0 s1 reads)
    ∙ ap (λ n. filled v t.order w (at + c.from-used.result) (at + 32) (at + n) (c.from-entries.result - 1)) c.from-header.ensures)
    (let p = sized_back c.from-header.result t.blhdr t.length (length w) at head.used (may_end c.args.dialect head.last) c.from-header.ensures long (c.is_sized.ensures.0 c.if-not-is_sized.false) in
    (omega (arith, p.0, c.from-used.ensures), omega (arith, p.1, c.from-used.ensures), elim p.2 [ inl e ↦ inl e | inr e ↦ inr (omega (arith, c.from-used.ensures)) ]))
    (omega (arith, long, c.requires.inside))

pub returns-else-branch-clause-value : goal.returns-else-branch-clause-value
returns-else-branch-clause-value g c tells =
    let s0 = g.D.SectorDisk.state c.args.disk.now in
    let s1 = g.D.SectorDisk.state c.read_text.new.disk in
    let t = c.args.text.now in
    let v = c.args.volume.now in
    let w = words t (content s0) in
    let head = c.in-Some.head in
    let at = c.args.at in
    let reads = c.read_text.ensures.reads in
    unfilled_list c.args.dialect v t.order t.blhdr w at c.read_text.new.into head (c.in_ok-read_text.ensures.value tells) c.in-Some.ensures c.from-used.result (c.from-entries.result - 1) c.from-used.ensures (ap (λ n. n - 1) c.from-entries.ensures)
    (sym c.if-branch.false ∙ c.in_ok-blocks_are_valid.ensures.value (tells_then s0 s1 reads tells)
    ∙ ap (λ (b : List ℕ). filled v t.order b (at + c.from-used.result) (at + 32) (at + c.from-header.result) (c.from-entries.result - 1)) (same_words t s0 s1 reads)
    ∙ ap (λ n. filled v t.order w (at + c.from-used.result) (at + 32) (at + n) (c.from-entries.result - 1)) c.from-header.ensures)
