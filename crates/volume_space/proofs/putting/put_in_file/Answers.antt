use Rattle.std.proofs.Common.{◌≡◌, ◌<◌, ◌≤◌, ◌+◌, inl, inr, ℕ, Bool, true, false, List, length, refl, sym, ◌∙◌, ap, subst, arith}
use Rattle.std.specs.Prelude.{Contains, IfNone, IfSome, Option}
use Rattle.std.proofs.lemmas.Bool.{true≢false}
use Rattle.hx_bytes.specs.declared.extents.Extent.{Extent}
use Rattle.hx_bytes.specs.declared.extents.ForkRecord.{ForkRecord}
use Rattle.flag_rows.specs.Bits.{count_set, sectors_for}
use Rattle.file_io.specs.Places.{blocks_for}
use Rattle.volume_header.specs.declared.header.VolumeHeader.{VolumeHeader}
use Rattle.alloc_bitmap.specs.Map.{BlockMap, free_of, none}
use Rattle.catalog.specs.Pairs.{value_at}
use Rattle.sector_disk.specs.Lists.{Content}
use Rattle.sector_disk.proofs.SpaceLaws.{space_both}
use Rattle.hfs_volume.specs.Aside.{IsJournalSector}
use Rattle.hfs_volume.specs.Content.{VolumeState, volume_of}
use Rattle.volume_base.specs.Touching.{Touches}
use Rattle.volume_space.specs.Recording.{records_in}
use Rattle.volume_space.specs.Writing.{is_put_met, IsToldFile, blocks_put, can_put, extents_in, has_more, put_load}
use Rattle.volume_base.proofs.Commanding.{touches_both, touches_looks}
use Rattle.volume_base.proofs.KeptUsed.{used_read}
use Rattle.volume_space.proofs.PutMet.{met_alike}
use Rattle.volume_space.proofs.PutAlike.{alike_read, can_still, laid_alike, load_alike, puts_alike, spread_alike}
use Rattle.volume_base.proofs.Still.{lists_still, own_still}
use Rattle.volume_space.proofs.Filling.{filled_read, none_filled}
use Rattle.volume_base.specs.Cutting.{fork_at, kind_of}
use Rattle.volume_space.proofs.putting.put_in_file.Goals as goal

pub how_to_put-how-requires-clause-few : goal.how_to_put-how-requires-clause-few
how_to_put-how-requires-clause-few g c = c.are_countable.ensures c.if-not-are_countable.false

pub put_over-requires-clause-settled : goal.put_over-requires-clause-settled
put_over-requires-clause-settled g c tells = c.find_fork.ensures.serves.settled tells

pub put_over-requires-clause-closed : goal.put_over-requires-clause-closed
put_over-requires-clause-closed g c tells at shut =
    let before = sym c.find_fork.ensures.looked.reads.looks.same.tells ∙ tells in
    subst (λ (k : Content). IsJournalSector k at) (sym (c.find_fork.ensures.looked.reads.looks.content before)) (c.requires.closed before at ((c.find_fork.ensures.looked.reads.looks.closed before at).0 shut))

pub put_over-requires-clause-unchanged : goal.put_over-requires-clause-unchanged
put_over-requires-clause-unchanged g c = subst (λ (m : BlockMap). m.changed ≡ none (sectors_for (length m.used))) (sym c.find_fork.ensures.looked.reads.keeps.map) c.requires.unchanged

pub put_over-requires-clause-there : goal.put_over-requires-clause-there
put_over-requires-clause-there g c tells =
    let before = sym c.find_fork.ensures.looked.reads.looks.same.tells ∙ tells in
    ap (λ (l : VolumeState). value_at l.catalog_pairs c.args.entry.now.parent c.args.entry.now.name) (lists_still c.args.volume.now c.find_fork.new.volume (g.P.SectorView.space c.args.space.now) (g.P.SectorView.space c.find_fork.new.space) c.find_fork.ensures.looked.reads before)
    ∙ c.requires.there before

pub put_over-requires-clause-counted : goal.put_over-requires-clause-counted
put_over-requires-clause-counted g c tells =
    let before = sym c.find_fork.ensures.looked.reads.looks.same.tells ∙ tells in
    c.in_ok-found.ensures.counted before
    ∙ sym (ap (λ (l : VolumeState). records_in (kind_of c.args.kind) l c.args.file.now.fields.id)
    (sym (c.find_fork.ensures.serves.settled (c.find_fork.ensures.looked.reads.looks.same.tells ∙ before)).lists ∙ ap volume_of (c.find_fork.ensures.looked.reads.looks.content before)))

pub returns-in-Some-clause-met : goal.returns-in-Some-clause-met
returns-in-Some-clause-met g c tells other = absurd (true≢false other)

pub returns-clause-met : goal.returns-clause-met
returns-clause-met g c tells other =
    sym (met_alike c.args.volume.now c.find_fork.new.volume (alike_read c.args.volume.now c.find_fork.new.volume (g.P.SectorView.space c.args.space.now) (g.P.SectorView.space c.find_fork.new.space) c.find_fork.ensures.looked.reads) c.find_fork.ensures.looked.reads.keeps.capacity
    (volume_of (g.P.SectorView.space c.find_fork.new.space).content) (volume_of (g.P.SectorView.space c.args.space.now).content) (ap volume_of (c.find_fork.ensures.looked.reads.looks.content tells))
    (g.P.SectorView.space c.find_fork.new.space).spare (g.P.SectorView.space c.args.space.now).spare c.in_ok-found.found.records (records_in (kind_of c.args.kind) (volume_of (g.P.SectorView.space c.args.space.now).content) c.args.file.now.fields.id)
    c.len-extents.result (length (extents_in (kind_of c.args.kind) (g.P.SectorView.space c.args.space.now).content c.args.file.now)) (fork_at (kind_of c.args.kind) c.args.file.now).total_blocks (fork_at (kind_of c.args.kind) c.args.file.now).logical_size c.args.from (length c.args.value.now)
    c.find_fork.ensures.looked.reads.looks.spare (c.in_ok-found.ensures.counted tells) (c.len-extents.ensures ∙ ap (λ (l : List Extent). length l) (c.in_ok-found.ensures.found tells)))
    ∙ subst (λ (o : Option Bool). IfNone o (is_put_met c.find_fork.new.volume (volume_of (g.P.SectorView.space c.find_fork.new.space).content) (g.P.SectorView.space c.find_fork.new.space).spare c.in_ok-found.found.records c.len-extents.result (fork_at (kind_of c.args.kind) c.args.file.now).total_blocks (fork_at (kind_of c.args.kind) c.args.file.now).logical_size c.args.from (length c.args.value.now) ≡ false)) c.in_default.is
    (subst (λ (f : ForkRecord). IfNone c.how_to_put-how.result (is_put_met c.find_fork.new.volume (volume_of (g.P.SectorView.space c.find_fork.new.space).content) (g.P.SectorView.space c.find_fork.new.space).spare c.in_ok-found.found.records c.len-extents.result f.total_blocks f.logical_size c.args.from (length c.args.value.now) ≡ false)) c.fork_of-fork.ensures (c.how_to_put-how.ensures.met (c.find_fork.ensures.looked.reads.looks.same.tells ∙ tells)))

pub put_over-requires-clause-told : goal.put_over-requires-clause-told
put_over-requires-clause-told g c tells =
    let before = sym c.find_fork.ensures.looked.reads.looks.same.tells ∙ tells in
    let of = c.requires.told before in
    subst (λ (k : Content). IsToldFile (kind_of c.args.kind) c.args.file.now c.in_ok-found.found.list k) (sym (c.find_fork.ensures.looked.reads.looks.content before))
    (record { entry = of.entry; stands = of.stands; value = of.value; extents_are = c.in_ok-found.ensures.found before; no_link = of.no_link })

pub returns-in-Some-clause-commit : goal.returns-in-Some-clause-commit
returns-in-Some-clause-commit g c committed holds alike =
    touches_both committed _ (g.P.SectorView.space c.args.space.now) (g.P.SectorView.space c.find_fork.new.space) (g.P.SectorView.space c.put_over.new.space) (touches_looks committed _ (g.P.SectorView.space c.args.space.now) (g.P.SectorView.space c.find_fork.new.space) c.find_fork.ensures.looked.reads.looks)
    (subst (λ (l : List ℕ). Touches committed (λ s. Contains l s) (g.P.SectorView.space c.find_fork.new.space) (g.P.SectorView.space c.put_over.new.space)) (own_still c.args.volume.now c.find_fork.new.volume (g.P.SectorView.space c.args.space.now) (g.P.SectorView.space c.find_fork.new.space) c.find_fork.ensures.looked.reads) (c.put_over.ensures.commit committed ((used_read c.args.volume.now c.find_fork.new.volume (g.P.SectorView.space c.args.space.now) (g.P.SectorView.space c.find_fork.new.space) c.find_fork.ensures.looked.reads).holds committed holds) (laid_alike c.args.volume.now c.find_fork.new.volume (alike_read c.args.volume.now c.find_fork.new.volume (g.P.SectorView.space c.args.space.now) (g.P.SectorView.space c.find_fork.new.space) c.find_fork.ensures.looked.reads) committed alike)))

pub returns-in-Some-clause-space : goal.returns-in-Some-clause-space
returns-in-Some-clause-space g c = space_both (g.P.SectorView.space c.args.space.now) (g.P.SectorView.space c.find_fork.new.space) (g.P.SectorView.space c.put_over.new.space) c.find_fork.ensures.looked.reads.looks.same c.put_over.ensures.space

pub returns-in-Some-clause-below : goal.returns-in-Some-clause-below
returns-in-Some-clause-below g c = g.met.P.SectorView.follows_trans c.args.space.now c.find_fork.new.space c.put_over.new.space c.find_fork.ensures.looked.edits.ran.below c.put_over.ensures.below

pub returns-in-Some-clause-same : goal.returns-in-Some-clause-same
returns-in-Some-clause-same g c = (c.put_over.ensures.same.0 ∙ c.find_fork.ensures.looked.reads.keeps.private, c.put_over.ensures.same.1 ∙ c.find_fork.ensures.looked.reads.keeps.shrunk, c.put_over.ensures.same.2 ∙ c.find_fork.ensures.looked.reads.keeps.capacity)

pub returns-in_err-put_over-clause-commit : goal.returns-in_err-put_over-clause-commit
returns-in_err-put_over-clause-commit g c committed holds alike =
    touches_both committed _ (g.P.SectorView.space c.args.space.now) (g.P.SectorView.space c.find_fork.new.space) (g.P.SectorView.space c.put_over.new.space) (touches_looks committed _ (g.P.SectorView.space c.args.space.now) (g.P.SectorView.space c.find_fork.new.space) c.find_fork.ensures.looked.reads.looks)
    (subst (λ (l : List ℕ). Touches committed (λ s. Contains l s) (g.P.SectorView.space c.find_fork.new.space) (g.P.SectorView.space c.put_over.new.space)) (own_still c.args.volume.now c.find_fork.new.volume (g.P.SectorView.space c.args.space.now) (g.P.SectorView.space c.find_fork.new.space) c.find_fork.ensures.looked.reads) (c.put_over.ensures.commit committed ((used_read c.args.volume.now c.find_fork.new.volume (g.P.SectorView.space c.args.space.now) (g.P.SectorView.space c.find_fork.new.space) c.find_fork.ensures.looked.reads).holds committed holds) (laid_alike c.args.volume.now c.find_fork.new.volume (alike_read c.args.volume.now c.find_fork.new.volume (g.P.SectorView.space c.args.space.now) (g.P.SectorView.space c.find_fork.new.space) c.find_fork.ensures.looked.reads) committed alike)))

pub returns-in_err-put_over-clause-space : goal.returns-in_err-put_over-clause-space
returns-in_err-put_over-clause-space g c = space_both (g.P.SectorView.space c.args.space.now) (g.P.SectorView.space c.find_fork.new.space) (g.P.SectorView.space c.put_over.new.space) c.find_fork.ensures.looked.reads.looks.same c.put_over.ensures.space

pub returns-in_err-put_over-clause-below : goal.returns-in_err-put_over-clause-below
returns-in_err-put_over-clause-below g c = g.met.P.SectorView.follows_trans c.args.space.now c.find_fork.new.space c.put_over.new.space c.find_fork.ensures.looked.edits.ran.below c.put_over.ensures.below

pub returns-in_err-put_over-clause-same : goal.returns-in_err-put_over-clause-same
returns-in_err-put_over-clause-same g c = (c.put_over.ensures.same.0 ∙ c.find_fork.ensures.looked.reads.keeps.private, c.put_over.ensures.same.1 ∙ c.find_fork.ensures.looked.reads.keeps.shrunk, c.put_over.ensures.same.2 ∙ c.find_fork.ensures.looked.reads.keeps.capacity)

pub returns-in-Some-clause-puts : goal.returns-in-Some-clause-puts
returns-in-Some-clause-puts g c tells so = puts_alike c.args.volume.now c.find_fork.new.volume (alike_read c.args.volume.now c.find_fork.new.volume (g.P.SectorView.space c.args.space.now) (g.P.SectorView.space c.find_fork.new.space) c.find_fork.ensures.looked.reads) (kind_of c.args.kind) c.args.file.now c.args.from c.args.value.now c.put_over.new.volume (g.P.SectorView.space c.find_fork.new.space).content (g.P.SectorView.space c.args.space.now).content (g.P.SectorView.space c.put_over.new.space).content (c.find_fork.ensures.looked.reads.looks.content tells) (c.in_ok-put_over.ensures.puts (c.find_fork.ensures.looked.reads.looks.same.tells ∙ tells))

pub returns-in-Some-clause-waits : goal.returns-in-Some-clause-waits
returns-in-Some-clause-waits g c tells other = absurd (true≢false other)

pub returns-in-Some-clause-holds : goal.returns-in-Some-clause-holds
returns-in-Some-clause-holds g c committed was = c.in_ok-put_over.ensures.holds committed ((used_read c.args.volume.now c.find_fork.new.volume (g.P.SectorView.space c.args.space.now) (g.P.SectorView.space c.find_fork.new.space) c.find_fork.ensures.looked.reads).holds committed was)

pub returns-clause-commit : goal.returns-clause-commit
returns-clause-commit g c committed holds alike = touches_looks committed _ (g.P.SectorView.space c.args.space.now) (g.P.SectorView.space c.find_fork.new.space) c.find_fork.ensures.looked.reads.looks

pub returns-clause-spent : goal.returns-clause-spent
returns-clause-spent g c tells = inl (omega (arith, c.find_fork.ensures.looked.reads.looks.spare))

pub returns-clause-space : goal.returns-clause-space
returns-clause-space g c = c.find_fork.ensures.looked.reads.looks.same

pub returns-clause-same : goal.returns-clause-same
returns-clause-same g c = (c.find_fork.ensures.looked.reads.keeps.private, c.find_fork.ensures.looked.reads.keeps.shrunk, c.find_fork.ensures.looked.reads.keeps.capacity)

pub returns-clause-service : goal.returns-clause-service
returns-clause-service g c = c.find_fork.ensures.looked.stands.service

pub returns-then-not-are_countable-clause-commit : goal.returns-then-not-are_countable-clause-commit
returns-then-not-are_countable-clause-commit g c committed holds alike = touches_looks committed _ (g.P.SectorView.space c.args.space.now) (g.P.SectorView.space c.find_fork.new.space) c.find_fork.ensures.looked.reads.looks

pub returns-then-not-are_countable-clause-spent : goal.returns-then-not-are_countable-clause-spent
returns-then-not-are_countable-clause-spent g c tells = inl (omega (arith, c.find_fork.ensures.looked.reads.looks.spare))

pub returns-then-not-are_countable-clause-space : goal.returns-then-not-are_countable-clause-space
returns-then-not-are_countable-clause-space g c = c.find_fork.ensures.looked.reads.looks.same

pub returns-then-not-are_countable-clause-same : goal.returns-then-not-are_countable-clause-same
returns-then-not-are_countable-clause-same g c = (c.find_fork.ensures.looked.reads.keeps.private, c.find_fork.ensures.looked.reads.keeps.shrunk, c.find_fork.ensures.looked.reads.keeps.capacity)

pub returns-then-not-are_countable-clause-service : goal.returns-then-not-are_countable-clause-service
returns-then-not-are_countable-clause-service g c = c.find_fork.ensures.looked.stands.service

pub returns-in_err-found-clause-commit : goal.returns-in_err-found-clause-commit
returns-in_err-found-clause-commit g c committed holds alike = touches_looks committed _ (g.P.SectorView.space c.args.space.now) (g.P.SectorView.space c.find_fork.new.space) c.find_fork.ensures.looked.reads.looks

pub returns-in_err-found-clause-spent : goal.returns-in_err-found-clause-spent
returns-in_err-found-clause-spent g c tells = inl (omega (arith, c.find_fork.ensures.looked.reads.looks.spare))

pub returns-in_err-found-clause-space : goal.returns-in_err-found-clause-space
returns-in_err-found-clause-space g c = c.find_fork.ensures.looked.reads.looks.same

pub returns-in_err-found-clause-same : goal.returns-in_err-found-clause-same
returns-in_err-found-clause-same g c = (c.find_fork.ensures.looked.reads.keeps.private, c.find_fork.ensures.looked.reads.keeps.shrunk, c.find_fork.ensures.looked.reads.keeps.capacity)

pub returns-in_err-found-clause-service : goal.returns-in_err-found-clause-service
returns-in_err-found-clause-service g c = c.find_fork.ensures.looked.stands.service

pub returns-clause-puts : goal.returns-clause-puts
returns-clause-puts g c tells so = absurd (true≢false (sym so))

pub returns-clause-waits : goal.returns-clause-waits
returns-clause-waits g c tells other = (c.find_fork.ensures.serves.settled (c.find_fork.ensures.looked.reads.looks.same.tells ∙ tells), c.find_fork.ensures.looked.reads.looks.content tells)

pub returns-clause-holds : goal.returns-clause-holds
returns-clause-holds g c committed was = (used_read c.args.volume.now c.find_fork.new.volume (g.P.SectorView.space c.args.space.now) (g.P.SectorView.space c.find_fork.new.space) c.find_fork.ensures.looked.reads).holds committed was

pub returns-in-Some-clause-spent : goal.returns-in-Some-clause-spent
returns-in-Some-clause-spent g c tells =
    let v = c.args.volume.now in
    let u = c.find_fork.new.volume in
    let a = g.P.SectorView.space c.args.space.now in
    let b = g.P.SectorView.space c.find_fork.new.space in
    let file = c.args.file.now in
    let size = (fork_at (kind_of c.args.kind) file).logical_size in
    let long = length c.args.value.now in
    let like = alike_read v u a b c.find_fork.ensures.looked.reads in
    inr (
      subst (λ (h : VolumeHeader). has_more size (c.args.from + long) (blocks_for h.block_size size) (fork_at (kind_of c.args.kind) file).total_blocks ≡ false) c.find_fork.ensures.looked.reads.keeps.header
          (subst (λ (o : Option Bool). IfSome o (λ spread. has_more size (c.args.from + long) (blocks_for u.header.block_size size) (fork_at (kind_of c.args.kind) file).total_blocks ≡ false)) c.in-Some.is (subst (λ (f : ForkRecord). IfSome c.how_to_put-how.result (λ spread. has_more f.logical_size (c.args.from + length c.args.value.now) (blocks_for c.find_fork.new.volume.header.block_size f.logical_size) f.total_blocks ≡ false)) c.fork_of-fork.ensures c.how_to_put-how.ensures.cut)),
      omega (
        arith,
        c.find_fork.ensures.looked.reads.looks.spare,
        c.put_over.ensures.spent (c.find_fork.ensures.looked.reads.looks.same.tells ∙ tells),
        load_alike v u like size c.args.from long,
        spread_alike v u like size c.args.from long c.in_ok-found.found.records (records_in (kind_of c.args.kind) (volume_of a.content) file.fields.id) (length c.in_ok-found.found.list) (length (extents_in (kind_of c.args.kind) a.content file)) c.find_fork.ensures.looked.reads.keeps.extents.file.shape
            (c.in_ok-found.ensures.counted tells) (ap (λ (l : List Extent). length l) (c.in_ok-found.ensures.found tells)),
      ),
    )

pub returns-in_err-put_over-clause-spent : goal.returns-in_err-put_over-clause-spent
returns-in_err-put_over-clause-spent g c tells =
    let v = c.args.volume.now in
    let u = c.find_fork.new.volume in
    let a = g.P.SectorView.space c.args.space.now in
    let b = g.P.SectorView.space c.find_fork.new.space in
    let file = c.args.file.now in
    let size = (fork_at (kind_of c.args.kind) file).logical_size in
    let long = length c.args.value.now in
    let like = alike_read v u a b c.find_fork.ensures.looked.reads in
    inr (
      subst (λ (h : VolumeHeader). has_more size (c.args.from + long) (blocks_for h.block_size size) (fork_at (kind_of c.args.kind) file).total_blocks ≡ false) c.find_fork.ensures.looked.reads.keeps.header
          (subst (λ (o : Option Bool). IfSome o (λ spread. has_more size (c.args.from + long) (blocks_for u.header.block_size size) (fork_at (kind_of c.args.kind) file).total_blocks ≡ false)) c.in-Some.is (subst (λ (f : ForkRecord). IfSome c.how_to_put-how.result (λ spread. has_more f.logical_size (c.args.from + length c.args.value.now) (blocks_for c.find_fork.new.volume.header.block_size f.logical_size) f.total_blocks ≡ false)) c.fork_of-fork.ensures c.how_to_put-how.ensures.cut)),
      omega (
        arith,
        c.find_fork.ensures.looked.reads.looks.spare,
        c.put_over.ensures.spent (c.find_fork.ensures.looked.reads.looks.same.tells ∙ tells),
        load_alike v u like size c.args.from long,
        spread_alike v u like size c.args.from long c.in_ok-found.found.records (records_in (kind_of c.args.kind) (volume_of a.content) file.fields.id) (length c.in_ok-found.found.list) (length (extents_in (kind_of c.args.kind) a.content file)) c.find_fork.ensures.looked.reads.keeps.extents.file.shape
            (c.in_ok-found.ensures.counted tells) (ap (λ (l : List Extent). length l) (c.in_ok-found.ensures.found tells)),
      ),
    )

pub put_over-requires-clause-free : goal.put_over-requires-clause-free
put_over-requires-clause-free g c = (subst (λ (o : Option Bool). IfSome o (λ spread. blocks_put c.find_fork.new.volume (fork_at (kind_of c.args.kind) c.args.file.now).logical_size c.args.from (length c.args.value.now) ≤ count_set (free_of c.find_fork.new.volume.map))) c.in-Some.is (subst (λ (f : ForkRecord). IfSome c.how_to_put-how.result (λ spread. blocks_put c.find_fork.new.volume f.logical_size c.args.from (length c.args.value.now) ≤ count_set (free_of c.find_fork.new.volume.map))) c.fork_of-fork.ensures c.how_to_put-how.ensures.free))

pub put_over-requires-clause-room : goal.put_over-requires-clause-room
put_over-requires-clause-room g c = (subst (λ (o : Option Bool). IfSome o (λ spread. put_load c.find_fork.new.volume (fork_at (kind_of c.args.kind) c.args.file.now).logical_size c.args.from (length c.args.value.now) ≤ (g.P.SectorView.space c.find_fork.new.space).spare)) c.in-Some.is (subst (λ (f : ForkRecord). IfSome c.how_to_put-how.result (λ spread. put_load c.find_fork.new.volume f.logical_size c.args.from (length c.args.value.now) ≤ (g.P.SectorView.space c.find_fork.new.space).spare)) c.fork_of-fork.ensures c.how_to_put-how.ensures.room))

pub put_over-requires-clause-short : goal.put_over-requires-clause-short
put_over-requires-clause-short g c plain = omega (arith, c.len-extents.ensures, (subst (λ (o : Option Bool). IfSome o (λ spread. spread ≡ false → c.len-extents.result < 8)) c.in-Some.is c.how_to_put-how.ensures.short) plain)

pub returns-in-Some-clause-exactly : goal.returns-in-Some-clause-exactly
returns-in-Some-clause-exactly g c tells other = absurd (true≢false other)

pub returns-in-Some-clause-no_cut : goal.returns-in-Some-clause-no_cut
returns-in-Some-clause-no_cut g c tells so =
    subst (λ (h : VolumeHeader). has_more (fork_at (kind_of c.args.kind) c.args.file.now).logical_size (c.args.from + length c.args.value.now) (blocks_for h.block_size (fork_at (kind_of c.args.kind) c.args.file.now).logical_size) (fork_at (kind_of c.args.kind) c.args.file.now).total_blocks ≡ false) c.find_fork.ensures.looked.reads.keeps.header
    (subst (λ (o : Option Bool). IfSome o (λ spread. has_more (fork_at (kind_of c.args.kind) c.args.file.now).logical_size (c.args.from + length c.args.value.now) (blocks_for c.find_fork.new.volume.header.block_size (fork_at (kind_of c.args.kind) c.args.file.now).logical_size) (fork_at (kind_of c.args.kind) c.args.file.now).total_blocks ≡ false)) c.in-Some.is (subst (λ (f : ForkRecord). IfSome c.how_to_put-how.result (λ spread. has_more f.logical_size (c.args.from + length c.args.value.now) (blocks_for c.find_fork.new.volume.header.block_size f.logical_size) f.total_blocks ≡ false)) c.fork_of-fork.ensures c.how_to_put-how.ensures.cut))

pub returns-clause-no_cut : goal.returns-clause-no_cut
returns-clause-no_cut g c tells so = absurd (true≢false (sym so))

pub returns-clause-exactly : goal.returns-clause-exactly
returns-clause-exactly g c tells other =
    sym (can_still c.args.volume.now c.find_fork.new.volume (alike_read c.args.volume.now c.find_fork.new.volume (g.P.SectorView.space c.args.space.now) (g.P.SectorView.space c.find_fork.new.space) c.find_fork.ensures.looked.reads) (fork_at (kind_of c.args.kind) c.args.file.now).logical_size c.args.from (length c.args.value.now) (g.P.SectorView.space c.find_fork.new.space).spare (g.P.SectorView.space c.args.space.now).spare c.len-extents.result (length (extents_in (kind_of c.args.kind) (g.P.SectorView.space c.args.space.now).content c.args.file.now)) (fork_at (kind_of c.args.kind) c.args.file.now).total_blocks c.find_fork.ensures.looked.reads.looks.spare (c.len-extents.ensures ∙ ap (λ (l : List Extent). length l) (c.in_ok-found.ensures.found tells)) _ refl) ∙ subst (λ (o : Option Bool). IfNone o (can_put c.find_fork.new.volume (g.P.SectorView.space c.find_fork.new.space).spare c.len-extents.result (fork_at (kind_of c.args.kind) c.args.file.now).total_blocks (fork_at (kind_of c.args.kind) c.args.file.now).logical_size c.args.from (length c.args.value.now) ≡ false)) c.in_default.is (subst (λ (f : ForkRecord). IfNone c.how_to_put-how.result (can_put c.find_fork.new.volume (g.P.SectorView.space c.find_fork.new.space).spare c.len-extents.result f.total_blocks f.logical_size c.args.from (length c.args.value.now) ≡ false)) c.fork_of-fork.ensures c.how_to_put-how.ensures.exactly)

pub put_over-requires-clause-countable : goal.put_over-requires-clause-countable
put_over-requires-clause-countable g c = omega (arith, c.len-extents.ensures, c.are_countable.ensures c.if-not-are_countable.false)

pub put_over-requires-clause-filled : goal.put_over-requires-clause-filled
put_over-requires-clause-filled g c = filled_read c.args.volume.now c.find_fork.new.volume (g.P.SectorView.space c.args.space.now) (g.P.SectorView.space c.find_fork.new.space) c.find_fork.ensures.looked.reads c.requires.filled

pub returns-in-Some-clause-filled : goal.returns-in-Some-clause-filled
returns-in-Some-clause-filled g c = none_filled c.put_over.new.volume (g.P.SectorView.space c.put_over.new.space) c.in_ok-put_over.ensures.dropped

pub returns-clause-filled : goal.returns-clause-filled
returns-clause-filled g c = filled_read c.args.volume.now c.find_fork.new.volume (g.P.SectorView.space c.args.space.now) (g.P.SectorView.space c.find_fork.new.space) c.find_fork.ensures.looked.reads c.requires.filled
