use Rattle.std.proofs.Common.{◌≡◌, ◌⊎◌, inl, inr, ⊎_elim, ◌≤◌, ℕ, ◌+◌, true, false, List, length, refl, sym, ◌∙◌, ap, subst, arith}
use Rattle.std.specs.Prelude.{Contains, IfSome, Option, Some}
use Rattle.std.proofs.lemmas.Bool.{true≢false}
use Rattle.flag_rows.specs.Bits.{sectors_for}
use Rattle.alloc_bitmap.specs.Map.{BlockMap, none}
use Rattle.catalog.specs.Pairs.{value_at}
use Rattle.cat_records.specs.Fits.{FitsRecord}
use Rattle.sector_disk.specs.Lists.{Content}
use Rattle.sector_disk.proofs.SpaceLaws.{space_both}
use Rattle.hfs_volume.specs.Aside.{IsJournalSector}
use Rattle.hfs_volume.specs.Content.{VolumeState, volume_of}
use Rattle.hfs_volume.specs.Records.{is_thread}
use Rattle.volume_base.specs.Touching.{Touches}
use Rattle.file_io.specs.Places.{blocks_for}
use Rattle.volume_header.specs.declared.header.VolumeHeader.{VolumeHeader}
use Rattle.volume_space.specs.Recording.{records_in}
use Rattle.volume_space.specs.Writing.{is_data_met_in, IsToldFile, extents_in, has_more}
use Rattle.volume_base.specs.declared.entries.Entry.{Entry}
use Rattle.volume_base.specs.declared.volume.Tree.{Tree}
use Rattle.volume_base.proofs.Commanding.{touches_both, touches_looks}
use Rattle.volume_base.proofs.KeptMarks.{own_kept, holds_kept, settled_kept, stands_kept, unchanged_kept}
use Rattle.volume_base.proofs.FoundEntry.{IsThere, entry_there, not_none, settled_spelled}
use Rattle.volume_base.proofs.KeptUsed.{used_read}
use Rattle.volume_space.proofs.PutAlike.{alike_both, alike_kept, alike_read, can_still, laid_alike, load_alike, puts_alike, spread_alike}
use Rattle.volume_space.proofs.PutMet.{met_alike, not_met}
use Rattle.volume_space.proofs.PutFile.{data_met, cut_is, entry_is, has_it, its, load_now, now_is, number_is, records_now, same_file, same_files, told_is}
use Rattle.volume_base.proofs.Seeing.{if_so}
use Rattle.volume_base.proofs.Still.{lists_still, own_still, settled_still}
use Rattle.volume_space.proofs.Filling.{filled_kept, filled_read}
use Rattle.volume_base.specs.Cutting.{fork_at, kind_of}
use Rattle.volume_base.proofs.ForkKinds.{kind_is}
use Rattle.volume_space.proofs.putting.put_data.Goals as goal

pub entry-requires-clause-stands : goal.entry-requires-clause-stands
entry-requires-clause-stands g c = stands_kept c.args.volume.now c.keep.new.self c.keep.ensures (g.P.SectorView.space c.args.space.now) c.requires.stands

pub entry-requires-clause-spelled : goal.entry-requires-clause-spelled
entry-requires-clause-spelled g c tells = settled_spelled c.keep.new.self (g.P.SectorView.space c.args.space.now).content (settled_kept c.args.volume.now c.keep.new.self c.keep.ensures (g.P.SectorView.space c.args.space.now) (c.requires.settled tells))

pub put_in_entry-requires-clause-settled : goal.put_in_entry-requires-clause-settled
put_in_entry-requires-clause-settled g c tells =
    let before = sym c.entry.ensures.looked.reads.looks.same.tells ∙ tells in
    settled_still c.keep.new.self c.entry.new.self (g.P.SectorView.space c.args.space.now) (g.P.SectorView.space c.entry.new.space) c.entry.ensures.looked.reads before (settled_kept c.args.volume.now c.keep.new.self c.keep.ensures (g.P.SectorView.space c.args.space.now) (c.requires.settled before))

pub put_in_entry-requires-clause-closed : goal.put_in_entry-requires-clause-closed
put_in_entry-requires-clause-closed g c tells at shut =
    let before = sym c.entry.ensures.looked.reads.looks.same.tells ∙ tells in
    subst (λ (k : Content). IsJournalSector k at) (sym (c.entry.ensures.looked.reads.looks.content before)) (c.requires.closed before at ((c.entry.ensures.looked.reads.looks.closed before at).0 shut))

pub put_in_entry-requires-clause-unchanged : goal.put_in_entry-requires-clause-unchanged
put_in_entry-requires-clause-unchanged g c = subst (λ (m : BlockMap). m.changed ≡ none (sectors_for (length m.used))) (sym c.entry.ensures.looked.reads.keeps.map) (unchanged_kept c.args.volume.now c.keep.new.self c.keep.ensures (g.P.SectorView.space c.args.space.now) c.requires.stands.service)

pub put_in_entry-requires-clause-name : goal.put_in_entry-requires-clause-name
put_in_entry-requires-clause-name g c = subst (λ (o : Option Entry). IfSome o (λ entry. length entry.name ≤ 255)) c.in-Some.is c.in_ok-entry.ensures.name

pub put_in_entry-requires-clause-fits : goal.put_in_entry-requires-clause-fits
put_in_entry-requires-clause-fits g c = subst (λ (o : Option Entry). IfSome o (λ entry. is_thread entry.rec ≡ false → FitsRecord entry.rec)) c.in-Some.is c.in_ok-entry.ensures.fits

pub put_in_entry-requires-clause-there : goal.put_in_entry-requires-clause-there
put_in_entry-requires-clause-there g c tells =
    let before = sym c.entry.ensures.looked.reads.looks.same.tells ∙ tells in
    let there = c.requires.there before in
    let it : IsThere _ c.args.id c.in-Some.entry = entry_there c.keep.new.self (g.P.SectorView.space c.args.space.now).content ((stands_kept c.args.volume.now c.keep.new.self c.keep.ensures (g.P.SectorView.space c.args.space.now) c.requires.stands).stands before).trees (settled_kept c.args.volume.now c.keep.new.self c.keep.ensures (g.P.SectorView.space c.args.space.now) (c.requires.settled before)) c.args.id there.0 there.1 there.2 c.in-Some.entry (sym c.in-Some.is ∙ c.in_ok-entry.ensures.found before) in
    ap (λ (l : VolumeState). value_at l.catalog_pairs c.in-Some.entry.parent c.in-Some.entry.name) (lists_still c.keep.new.self c.entry.new.self (g.P.SectorView.space c.args.space.now) (g.P.SectorView.space c.entry.new.space) c.entry.ensures.looked.reads before) ∙ it.value

pub put_in_entry-requires-clause-told : goal.put_in_entry-requires-clause-told
put_in_entry-requires-clause-told g c tells file is =
    let before = sym c.entry.ensures.looked.reads.looks.same.tells ∙ tells in
    let there = c.requires.there before in
    let it : IsThere _ c.args.id c.in-Some.entry = entry_there c.keep.new.self (g.P.SectorView.space c.args.space.now).content ((stands_kept c.args.volume.now c.keep.new.self c.keep.ensures (g.P.SectorView.space c.args.space.now) c.requires.stands).stands before).trees (settled_kept c.args.volume.now c.keep.new.self c.keep.ensures (g.P.SectorView.space c.args.space.now) (c.requires.settled before)) c.args.id there.0 there.1 there.2 c.in-Some.entry (sym c.in-Some.is ∙ c.in_ok-entry.ensures.found before) in
    subst (λ (x : Content). IsToldFile (kind_of c.args.kind) file (extents_in (kind_of c.args.kind) x file) x) (sym (c.entry.ensures.looked.reads.looks.content before)) (told_is (kind_of c.args.kind) (kind_is c.args.kind) c.keep.new.self (g.P.SectorView.space c.args.space.now) (stands_kept c.args.volume.now c.keep.new.self c.keep.ensures (g.P.SectorView.space c.args.space.now) c.requires.stands) before (settled_kept c.args.volume.now c.keep.new.self c.keep.ensures (g.P.SectorView.space c.args.space.now) (c.requires.settled before)) there.0 there.1 there.3 file (same_file _ file (sym (entry_is (kind_of c.args.kind) (kind_is c.args.kind) c.keep.new.self (g.P.SectorView.space c.args.space.now) (stands_kept c.args.volume.now c.keep.new.self c.keep.ensures (g.P.SectorView.space c.args.space.now) c.requires.stands) before (settled_kept c.args.volume.now c.keep.new.self c.keep.ensures (g.P.SectorView.space c.args.space.now) (c.requires.settled before)) there.0 there.1 there.3 c.args.id c.in-Some.entry there.2 it) ∙ is)))

pub returns-in-Some-clause-exactly : goal.returns-in-Some-clause-exactly
returns-in-Some-clause-exactly g c tells node stands number kind put put_id at =
    let it : IsThere _ c.args.id c.in-Some.entry = entry_there c.keep.new.self (g.P.SectorView.space c.args.space.now).content ((stands_kept c.args.volume.now c.keep.new.self c.keep.ensures (g.P.SectorView.space c.args.space.now) c.requires.stands).stands tells).trees (settled_kept c.args.volume.now c.keep.new.self c.keep.ensures (g.P.SectorView.space c.args.space.now) (c.requires.settled tells)) c.args.id node stands number c.in-Some.entry (sym c.in-Some.is ∙ c.in_ok-entry.ensures.found tells) in
    let file = (its (kind_of c.args.kind) (kind_is c.args.kind) c.keep.new.self (g.P.SectorView.space c.args.space.now) (stands_kept c.args.volume.now c.keep.new.self c.keep.ensures (g.P.SectorView.space c.args.space.now) c.requires.stands) tells (settled_kept c.args.volume.now c.keep.new.self c.keep.ensures (g.P.SectorView.space c.args.space.now) (c.requires.settled tells)) node stands kind).file in
    if_so _ _ c.put_in_entry.result
    (λ said is other. sym (can_still c.args.volume.now c.entry.new.self (alike_both c.args.volume.now c.keep.new.self c.entry.new.self (alike_kept c.args.volume.now c.keep.new.self c.keep.ensures) (alike_read c.keep.new.self c.entry.new.self (g.P.SectorView.space c.args.space.now) (g.P.SectorView.space c.entry.new.space) c.entry.ensures.looked.reads)) (fork_at (kind_of c.args.kind) file).logical_size c.args.from (length c.args.value.now) (g.P.SectorView.space c.entry.new.space).spare (g.P.SectorView.space c.args.space.now).spare (length (extents_in (kind_of c.args.kind) (g.P.SectorView.space c.entry.new.space).content file)) (length (extents_in (kind_of c.args.kind) (g.P.SectorView.space c.args.space.now).content file)) (fork_at (kind_of c.args.kind) file).total_blocks c.entry.ensures.looked.reads.looks.spare (ap (λ (x : Content). length (extents_in (kind_of c.args.kind) x file)) (c.entry.ensures.looked.reads.looks.content tells)) _ refl
    ∙ now_is (kind_of c.args.kind) (kind_is c.args.kind) c.args.volume.now (g.P.SectorView.space c.args.space.now) c.requires.stands tells (c.requires.settled tells) node stands kind file (same_files (kind_of c.args.kind) (kind_is c.args.kind) c.args.volume.now c.keep.new.self (g.P.SectorView.space c.args.space.now) c.requires.stands (stands_kept c.args.volume.now c.keep.new.self c.keep.ensures (g.P.SectorView.space c.args.space.now) c.requires.stands) tells (c.requires.settled tells) (settled_kept c.args.volume.now c.keep.new.self c.keep.ensures (g.P.SectorView.space c.args.space.now) (c.requires.settled tells)) node stands kind) put c.args.from (length c.args.value.now) (g.P.SectorView.space c.args.space.now).spare (put_id ∙ sym number) at) ∙ is other)
    (c.put_in_entry.ensures.exactly (c.entry.ensures.looked.reads.looks.same.tells ∙ tells) file (entry_is (kind_of c.args.kind) (kind_is c.args.kind) c.keep.new.self (g.P.SectorView.space c.args.space.now) (stands_kept c.args.volume.now c.keep.new.self c.keep.ensures (g.P.SectorView.space c.args.space.now) c.requires.stands) tells (settled_kept c.args.volume.now c.keep.new.self c.keep.ensures (g.P.SectorView.space c.args.space.now) (c.requires.settled tells)) node stands kind c.args.id c.in-Some.entry number it))

pub returns-in-Some-clause-met : goal.returns-in-Some-clause-met
returns-in-Some-clause-met g c tells node stands number kind put put_id at =
    let v = c.args.volume.now in
    let a = g.P.SectorView.space c.args.space.now in
    let b = g.P.SectorView.space c.entry.new.space in
    let it : IsThere _ c.args.id c.in-Some.entry = entry_there c.keep.new.self a.content ((stands_kept v c.keep.new.self c.keep.ensures a c.requires.stands).stands tells).trees (settled_kept v c.keep.new.self c.keep.ensures a (c.requires.settled tells)) c.args.id node stands number c.in-Some.entry (sym c.in-Some.is ∙ c.in_ok-entry.ensures.found tells) in
    let file = (its (kind_of c.args.kind) (kind_is c.args.kind) c.keep.new.self a (stands_kept v c.keep.new.self c.keep.ensures a c.requires.stands) tells (settled_kept v c.keep.new.self c.keep.ensures a (c.requires.settled tells)) node stands kind).file in
    let same = same_files (kind_of c.args.kind) (kind_is c.args.kind) v c.keep.new.self a c.requires.stands (stands_kept v c.keep.new.self c.keep.ensures a c.requires.stands) tells (c.requires.settled tells) (settled_kept v c.keep.new.self c.keep.ensures a (c.requires.settled tells)) node stands kind in
    if_so _ _ c.put_in_entry.result
    (λ said is other. not_met (is_data_met_in (kind_of c.args.kind) v a.spare (volume_of a.content) (Some put)) (λ ok.
    true≢false (sym (data_met (kind_of c.args.kind) (kind_is c.args.kind) v a c.requires.stands tells (c.requires.settled tells) node stands kind file same put c.args.from (length c.args.value.now) (put_id ∙ sym number) at c.requires.some a.spare ok)
    ∙ sym (met_alike v c.entry.new.self (alike_both v c.keep.new.self c.entry.new.self (alike_kept v c.keep.new.self c.keep.ensures) (alike_read c.keep.new.self c.entry.new.self a b c.entry.ensures.looked.reads))
    (c.entry.ensures.looked.reads.keeps.capacity ∙ c.keep.ensures.same.capacity) (volume_of b.content) (volume_of a.content) (ap volume_of (c.entry.ensures.looked.reads.looks.content tells)) b.spare a.spare
    (records_in (kind_of c.args.kind) (volume_of b.content) file.fields.id) (records_in (kind_of c.args.kind) (volume_of a.content) file.fields.id) (length (extents_in (kind_of c.args.kind) b.content file)) (length (extents_in (kind_of c.args.kind) a.content file)) (fork_at (kind_of c.args.kind) file).total_blocks (fork_at (kind_of c.args.kind) file).logical_size c.args.from (length c.args.value.now)
    c.entry.ensures.looked.reads.looks.spare (ap (λ (k : Content). records_in (kind_of c.args.kind) (volume_of k) file.fields.id) (c.entry.ensures.looked.reads.looks.content tells)) (ap (λ (x : Content). length (extents_in (kind_of c.args.kind) x file)) (c.entry.ensures.looked.reads.looks.content tells)))
    ∙ is other)))
    (c.put_in_entry.ensures.met (c.entry.ensures.looked.reads.looks.same.tells ∙ tells) file (entry_is (kind_of c.args.kind) (kind_is c.args.kind) c.keep.new.self a (stands_kept v c.keep.new.self c.keep.ensures a c.requires.stands) tells (settled_kept v c.keep.new.self c.keep.ensures a (c.requires.settled tells)) node stands kind c.args.id c.in-Some.entry number it))

pub returns-in-Some-clause-no_cut : goal.returns-in-Some-clause-no_cut
returns-in-Some-clause-no_cut g c tells node stands number kind put put_id at =
    let it : IsThere _ c.args.id c.in-Some.entry = entry_there c.keep.new.self (g.P.SectorView.space c.args.space.now).content ((stands_kept c.args.volume.now c.keep.new.self c.keep.ensures (g.P.SectorView.space c.args.space.now) c.requires.stands).stands tells).trees (settled_kept c.args.volume.now c.keep.new.self c.keep.ensures (g.P.SectorView.space c.args.space.now) (c.requires.settled tells)) c.args.id node stands number c.in-Some.entry (sym c.in-Some.is ∙ c.in_ok-entry.ensures.found tells) in
    let file = (its (kind_of c.args.kind) (kind_is c.args.kind) c.keep.new.self (g.P.SectorView.space c.args.space.now) (stands_kept c.args.volume.now c.keep.new.self c.keep.ensures (g.P.SectorView.space c.args.space.now) c.requires.stands) tells (settled_kept c.args.volume.now c.keep.new.self c.keep.ensures (g.P.SectorView.space c.args.space.now) (c.requires.settled tells)) node stands kind).file in
    if_so _ _ c.put_in_entry.result
    (λ said is so. sym (cut_is (kind_of c.args.kind) (kind_is c.args.kind) c.args.volume.now (g.P.SectorView.space c.args.space.now) c.requires.stands tells (c.requires.settled tells) node stands kind file (same_files (kind_of c.args.kind) (kind_is c.args.kind) c.args.volume.now c.keep.new.self (g.P.SectorView.space c.args.space.now) c.requires.stands (stands_kept c.args.volume.now c.keep.new.self c.keep.ensures (g.P.SectorView.space c.args.space.now) c.requires.stands) tells (c.requires.settled tells) (settled_kept c.args.volume.now c.keep.new.self c.keep.ensures (g.P.SectorView.space c.args.space.now) (c.requires.settled tells)) node stands kind) put c.args.from (length c.args.value.now) (put_id ∙ sym number) at)
    ∙ subst (λ (h : VolumeHeader). has_more (fork_at (kind_of c.args.kind) file).logical_size (c.args.from + length c.args.value.now) (blocks_for h.block_size (fork_at (kind_of c.args.kind) file).logical_size) (fork_at (kind_of c.args.kind) file).total_blocks ≡ false) (c.entry.ensures.looked.reads.keeps.header ∙ c.keep.ensures.same.header) (is so))
    (c.put_in_entry.ensures.no_cut (c.entry.ensures.looked.reads.looks.same.tells ∙ tells) file (entry_is (kind_of c.args.kind) (kind_is c.args.kind) c.keep.new.self (g.P.SectorView.space c.args.space.now) (stands_kept c.args.volume.now c.keep.new.self c.keep.ensures (g.P.SectorView.space c.args.space.now) c.requires.stands) tells (settled_kept c.args.volume.now c.keep.new.self c.keep.ensures (g.P.SectorView.space c.args.space.now) (c.requires.settled tells)) node stands kind c.args.id c.in-Some.entry number it))

pub returns-in-Some-clause-spent : goal.returns-in-Some-clause-spent
returns-in-Some-clause-spent g c tells node stands number kind put put_id at =
    let v = c.args.volume.now in
    let k = c.keep.new.self in
    let u = c.entry.new.self in
    let a = g.P.SectorView.space c.args.space.now in
    let b = g.P.SectorView.space c.entry.new.space in
    let held = stands_kept v k c.keep.ensures a c.requires.stands in
    let was = c.requires.settled tells in
    let kept = settled_kept v k c.keep.ensures a was in
    let it : IsThere _ c.args.id c.in-Some.entry = entry_there k a.content (held.stands tells).trees kept c.args.id node stands number c.in-Some.entry (sym c.in-Some.is ∙ c.in_ok-entry.ensures.found tells) in
    let file = (its (kind_of c.args.kind) (kind_is c.args.kind) k a held tells kept node stands kind).file in
    let same = same_files (kind_of c.args.kind) (kind_is c.args.kind) v k a c.requires.stands held tells was kept node stands kind in
    let size = (fork_at (kind_of c.args.kind) file).logical_size in
    let long = length c.args.value.now in
    let like = alike_both v k u (alike_kept v k c.keep.ensures) (alike_read k u a b c.entry.ensures.looked.reads) in
    ⊎_elim
    (λ none_put. inl (omega (arith, none_put, c.entry.ensures.looked.reads.looks.spare)))
    (λ some_put. inr (
      sym (cut_is (kind_of c.args.kind) (kind_is c.args.kind) v a c.requires.stands tells was node stands kind file same put c.args.from long (put_id ∙ sym number) at)
          ∙ subst (λ (h : VolumeHeader). has_more size (c.args.from + long) (blocks_for h.block_size size) (fork_at (kind_of c.args.kind) file).total_blocks ≡ false) (c.entry.ensures.looked.reads.keeps.header ∙ c.keep.ensures.same.header) some_put.0,
      omega (
        arith,
        some_put.1,
        c.entry.ensures.looked.reads.looks.spare,
        load_alike v u like size c.args.from long,
        load_now (kind_of c.args.kind) (kind_is c.args.kind) v a c.requires.stands tells was node stands kind file same put c.args.from long at,
        spread_alike v u like size c.args.from long (records_in (kind_of c.args.kind) (volume_of b.content) file.fields.id) (records_in (kind_of c.args.kind) (volume_of a.content) file.fields.id) (length (extents_in (kind_of c.args.kind) b.content file)) (length (extents_in (kind_of c.args.kind) a.content file))
            (c.entry.ensures.looked.reads.keeps.extents.file.shape ∙ ap (λ (t : Tree). t.file.shape) c.keep.ensures.same.extents)
            (ap (λ (x : Content). records_in (kind_of c.args.kind) (volume_of x) file.fields.id) (c.entry.ensures.looked.reads.looks.content tells)) (ap (λ (x : Content). length (extents_in (kind_of c.args.kind) x file)) (c.entry.ensures.looked.reads.looks.content tells)),
        records_now (kind_of c.args.kind) (kind_is c.args.kind) v a c.requires.stands tells was node stands kind file same put c.args.from long (put_id ∙ sym number) at,
      ),
    ))
    (c.put_in_entry.ensures.spent (c.entry.ensures.looked.reads.looks.same.tells ∙ tells) file (entry_is (kind_of c.args.kind) (kind_is c.args.kind) k a held tells kept node stands kind c.args.id c.in-Some.entry number it))

pub returns-in-Some-clause-puts : goal.returns-in-Some-clause-puts
returns-in-Some-clause-puts g c tells =
    let there = c.requires.there tells in
    let it : IsThere _ c.args.id c.in-Some.entry = entry_there c.keep.new.self (g.P.SectorView.space c.args.space.now).content ((stands_kept c.args.volume.now c.keep.new.self c.keep.ensures (g.P.SectorView.space c.args.space.now) c.requires.stands).stands tells).trees (settled_kept c.args.volume.now c.keep.new.self c.keep.ensures (g.P.SectorView.space c.args.space.now) (c.requires.settled tells)) c.args.id there.0 there.1 there.2 c.in-Some.entry (sym c.in-Some.is ∙ c.in_ok-entry.ensures.found tells) in
    let file = (its (kind_of c.args.kind) (kind_is c.args.kind) c.keep.new.self (g.P.SectorView.space c.args.space.now) (stands_kept c.args.volume.now c.keep.new.self c.keep.ensures (g.P.SectorView.space c.args.space.now) c.requires.stands) tells (settled_kept c.args.volume.now c.keep.new.self c.keep.ensures (g.P.SectorView.space c.args.space.now) (c.requires.settled tells)) there.0 there.1 there.3).file in
    if_so _ _ c.put_in_entry.result
    (λ said is so. record {
      file = file;
      number = number_is (kind_of c.args.kind) (kind_is c.args.kind) c.keep.new.self (g.P.SectorView.space c.args.space.now) (stands_kept c.args.volume.now c.keep.new.self c.keep.ensures (g.P.SectorView.space c.args.space.now) c.requires.stands) tells (settled_kept c.args.volume.now c.keep.new.self c.keep.ensures (g.P.SectorView.space c.args.space.now) (c.requires.settled tells)) there.0 there.1 there.3 file refl ∙ there.2;
      stands = has_it (kind_of c.args.kind) (kind_is c.args.kind) c.keep.new.self (g.P.SectorView.space c.args.space.now) (stands_kept c.args.volume.now c.keep.new.self c.keep.ensures (g.P.SectorView.space c.args.space.now) c.requires.stands) tells (settled_kept c.args.volume.now c.keep.new.self c.keep.ensures (g.P.SectorView.space c.args.space.now) (c.requires.settled tells)) there.0 there.1 there.3 file refl;
      puts = puts_alike c.args.volume.now c.entry.new.self (alike_both c.args.volume.now c.keep.new.self c.entry.new.self (alike_kept c.args.volume.now c.keep.new.self c.keep.ensures) (alike_read c.keep.new.self c.entry.new.self (g.P.SectorView.space c.args.space.now) (g.P.SectorView.space c.entry.new.space) c.entry.ensures.looked.reads)) (kind_of c.args.kind) file c.args.from c.args.value.now c.put_in_entry.new.volume (g.P.SectorView.space c.entry.new.space).content (g.P.SectorView.space c.args.space.now).content (g.P.SectorView.space c.put_in_entry.new.space).content (c.entry.ensures.looked.reads.looks.content tells) (is so);
    })
    (c.put_in_entry.ensures.puts (c.entry.ensures.looked.reads.looks.same.tells ∙ tells) file (entry_is (kind_of c.args.kind) (kind_is c.args.kind) c.keep.new.self (g.P.SectorView.space c.args.space.now) (stands_kept c.args.volume.now c.keep.new.self c.keep.ensures (g.P.SectorView.space c.args.space.now) c.requires.stands) tells (settled_kept c.args.volume.now c.keep.new.self c.keep.ensures (g.P.SectorView.space c.args.space.now) (c.requires.settled tells)) there.0 there.1 there.3 c.args.id c.in-Some.entry there.2 it))

pub returns-in-Some-clause-waits : goal.returns-in-Some-clause-waits
returns-in-Some-clause-waits g c tells =
    if_so _ _ c.put_in_entry.result (λ said is other. ((is other).0, (is other).1 ∙ c.entry.ensures.looked.reads.looks.content tells)) (c.put_in_entry.ensures.waits (c.entry.ensures.looked.reads.looks.same.tells ∙ tells))

pub returns-in-Some-clause-commit : goal.returns-in-Some-clause-commit
returns-in-Some-clause-commit g c committed holds alike =
    touches_both committed _ (g.P.SectorView.space c.args.space.now) (g.P.SectorView.space c.entry.new.space) (g.P.SectorView.space c.put_in_entry.new.space) (subst (λ (l : List ℕ). Touches committed (λ s. Contains l s) (g.P.SectorView.space c.args.space.now) (g.P.SectorView.space c.entry.new.space)) (own_kept c.args.volume.now c.keep.new.self c.keep.ensures) (touches_looks committed _ (g.P.SectorView.space c.args.space.now) (g.P.SectorView.space c.entry.new.space) c.entry.ensures.looked.reads.looks))
    (subst (λ (l : List ℕ). Touches committed (λ s. Contains l s) (g.P.SectorView.space c.entry.new.space) (g.P.SectorView.space c.put_in_entry.new.space)) (own_still c.keep.new.self c.entry.new.self (g.P.SectorView.space c.args.space.now) (g.P.SectorView.space c.entry.new.space) c.entry.ensures.looked.reads ∙ own_kept c.args.volume.now c.keep.new.self c.keep.ensures) (c.put_in_entry.ensures.commit committed ((used_read c.keep.new.self c.entry.new.self (g.P.SectorView.space c.args.space.now) (g.P.SectorView.space c.entry.new.space) c.entry.ensures.looked.reads).holds committed (holds_kept c.args.volume.now c.keep.new.self c.keep.ensures committed holds)) (laid_alike c.args.volume.now c.entry.new.self (alike_both c.args.volume.now c.keep.new.self c.entry.new.self (alike_kept c.args.volume.now c.keep.new.self c.keep.ensures) (alike_read c.keep.new.self c.entry.new.self (g.P.SectorView.space c.args.space.now) (g.P.SectorView.space c.entry.new.space) c.entry.ensures.looked.reads)) committed alike)))

pub returns-in-Some-clause-holds : goal.returns-in-Some-clause-holds
returns-in-Some-clause-holds g c committed was = c.put_in_entry.ensures.holds committed ((used_read c.keep.new.self c.entry.new.self (g.P.SectorView.space c.args.space.now) (g.P.SectorView.space c.entry.new.space) c.entry.ensures.looked.reads).holds committed (holds_kept c.args.volume.now c.keep.new.self c.keep.ensures committed was))

pub returns-in-Some-clause-same : goal.returns-in-Some-clause-same
returns-in-Some-clause-same g c = (c.put_in_entry.ensures.same.0 ∙ c.entry.ensures.looked.reads.keeps.private ∙ c.keep.ensures.same.private, c.put_in_entry.ensures.same.1 ∙ c.entry.ensures.looked.reads.keeps.shrunk ∙ c.keep.ensures.same.shrunk, c.put_in_entry.ensures.same.2 ∙ c.entry.ensures.looked.reads.keeps.capacity ∙ c.keep.ensures.same.capacity)

pub returns-in-Some-clause-space : goal.returns-in-Some-clause-space
returns-in-Some-clause-space g c = space_both (g.P.SectorView.space c.args.space.now) (g.P.SectorView.space c.entry.new.space) (g.P.SectorView.space c.put_in_entry.new.space) c.entry.ensures.looked.reads.looks.same c.put_in_entry.ensures.space

pub returns-in-Some-clause-below : goal.returns-in-Some-clause-below
returns-in-Some-clause-below g c = g.met.P.SectorView.follows_trans c.args.space.now c.entry.new.space c.put_in_entry.new.space c.entry.ensures.looked.edits.ran.below c.put_in_entry.ensures.below

pub returns-in-None-clause-commit : goal.returns-in-None-clause-commit
returns-in-None-clause-commit g c committed holds alike = subst (λ (l : List ℕ). Touches committed (λ s. Contains l s) (g.P.SectorView.space c.args.space.now) (g.P.SectorView.space c.entry.new.space)) (own_kept c.args.volume.now c.keep.new.self c.keep.ensures) (touches_looks committed _ (g.P.SectorView.space c.args.space.now) (g.P.SectorView.space c.entry.new.space) c.entry.ensures.looked.reads.looks)

pub returns-in-None-clause-same : goal.returns-in-None-clause-same
returns-in-None-clause-same g c = (c.entry.ensures.looked.reads.keeps.private ∙ c.keep.ensures.same.private, c.entry.ensures.looked.reads.keeps.shrunk ∙ c.keep.ensures.same.shrunk, c.entry.ensures.looked.reads.keeps.capacity ∙ c.keep.ensures.same.capacity)

pub returns-in-None-clause-space : goal.returns-in-None-clause-space
returns-in-None-clause-space g c = c.entry.ensures.looked.reads.looks.same

pub returns-in-None-clause-spent : goal.returns-in-None-clause-spent
returns-in-None-clause-spent g c tells node stands number kind put put_id at = inl (omega (arith, c.entry.ensures.looked.reads.looks.spare))

pub returns-in-None-clause-service : goal.returns-in-None-clause-service
returns-in-None-clause-service g c = c.entry.ensures.looked.stands.service

pub returns-in_err-entry-clause-commit : goal.returns-in_err-entry-clause-commit
returns-in_err-entry-clause-commit g c committed holds alike = subst (λ (l : List ℕ). Touches committed (λ s. Contains l s) (g.P.SectorView.space c.args.space.now) (g.P.SectorView.space c.entry.new.space)) (own_kept c.args.volume.now c.keep.new.self c.keep.ensures) (touches_looks committed _ (g.P.SectorView.space c.args.space.now) (g.P.SectorView.space c.entry.new.space) c.entry.ensures.looked.reads.looks)

pub returns-in_err-entry-clause-same : goal.returns-in_err-entry-clause-same
returns-in_err-entry-clause-same g c = (c.entry.ensures.looked.reads.keeps.private ∙ c.keep.ensures.same.private, c.entry.ensures.looked.reads.keeps.shrunk ∙ c.keep.ensures.same.shrunk, c.entry.ensures.looked.reads.keeps.capacity ∙ c.keep.ensures.same.capacity)

pub returns-in_err-entry-clause-space : goal.returns-in_err-entry-clause-space
returns-in_err-entry-clause-space g c = c.entry.ensures.looked.reads.looks.same

pub returns-in_err-entry-clause-spent : goal.returns-in_err-entry-clause-spent
returns-in_err-entry-clause-spent g c tells node stands number kind put put_id at = inl (omega (arith, c.entry.ensures.looked.reads.looks.spare))

pub returns-in_err-entry-clause-service : goal.returns-in_err-entry-clause-service
returns-in_err-entry-clause-service g c = c.entry.ensures.looked.stands.service

pub returns-in-None-clause-exactly : goal.returns-in-None-clause-exactly
returns-in-None-clause-exactly g c tells node stands number kind put put_id at other = absurd (not_none c.keep.new.self (g.P.SectorView.space c.args.space.now).content ((stands_kept c.args.volume.now c.keep.new.self c.keep.ensures (g.P.SectorView.space c.args.space.now) c.requires.stands).stands tells).trees (settled_kept c.args.volume.now c.keep.new.self c.keep.ensures (g.P.SectorView.space c.args.space.now) (c.requires.settled tells)) c.args.id node stands number (sym c.in-None.is ∙ c.in_ok-entry.ensures.found tells))

pub returns-in-None-clause-met : goal.returns-in-None-clause-met
returns-in-None-clause-met g c tells node stands number kind put put_id at other = absurd (not_none c.keep.new.self (g.P.SectorView.space c.args.space.now).content ((stands_kept c.args.volume.now c.keep.new.self c.keep.ensures (g.P.SectorView.space c.args.space.now) c.requires.stands).stands tells).trees (settled_kept c.args.volume.now c.keep.new.self c.keep.ensures (g.P.SectorView.space c.args.space.now) (c.requires.settled tells)) c.args.id node stands number (sym c.in-None.is ∙ c.in_ok-entry.ensures.found tells))

pub returns-in-None-clause-no_cut : goal.returns-in-None-clause-no_cut
returns-in-None-clause-no_cut g c tells node stands number kind put put_id at so = absurd (true≢false (sym so))

pub returns-in-None-clause-puts : goal.returns-in-None-clause-puts
returns-in-None-clause-puts g c tells so = absurd (true≢false (sym so))

pub returns-in-None-clause-waits : goal.returns-in-None-clause-waits
returns-in-None-clause-waits g c tells other = (settled_still c.keep.new.self c.entry.new.self (g.P.SectorView.space c.args.space.now) (g.P.SectorView.space c.entry.new.space) c.entry.ensures.looked.reads tells (settled_kept c.args.volume.now c.keep.new.self c.keep.ensures (g.P.SectorView.space c.args.space.now) (c.requires.settled tells)), c.entry.ensures.looked.reads.looks.content tells)

pub returns-in-None-clause-holds : goal.returns-in-None-clause-holds
returns-in-None-clause-holds g c committed was = (used_read c.keep.new.self c.entry.new.self (g.P.SectorView.space c.args.space.now) (g.P.SectorView.space c.entry.new.space) c.entry.ensures.looked.reads).holds committed (holds_kept c.args.volume.now c.keep.new.self c.keep.ensures committed was)

pub put_in_entry-requires-clause-filled : goal.put_in_entry-requires-clause-filled
put_in_entry-requires-clause-filled g c = filled_read c.keep.new.self c.entry.new.self (g.P.SectorView.space c.args.space.now) (g.P.SectorView.space c.entry.new.space) c.entry.ensures.looked.reads (filled_kept c.args.volume.now c.keep.new.self (g.P.SectorView.space c.args.space.now) c.keep.ensures c.requires.filled)

pub returns-in-None-clause-filled : goal.returns-in-None-clause-filled
returns-in-None-clause-filled g c = filled_read c.keep.new.self c.entry.new.self (g.P.SectorView.space c.args.space.now) (g.P.SectorView.space c.entry.new.space) c.entry.ensures.looked.reads (filled_kept c.args.volume.now c.keep.new.self (g.P.SectorView.space c.args.space.now) c.keep.ensures c.requires.filled)
