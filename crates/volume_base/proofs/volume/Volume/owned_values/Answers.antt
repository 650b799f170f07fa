use Rattle.std.proofs.Common.{◌≡◌, ◌<◌, ◌≤◌, ◌+◌, ◌^◌, ℕ, List, length, take, sym, ◌∙◌, ap, arith}
use Rattle.std.proofs.lemmas.List.{take_all}
use Rattle.attributes.specs.Owned.{names_of}
use Rattle.hfs_volume.specs.Content.{VolumeState, volume_of}
use Rattle.hfs_volume.specs.declared.cost.ValueChange.{ValueChange}
use Rattle.sector_disk.specs.Lists.{Content}
use Rattle.volume_base.specs.Values.{values_owned}
use Rattle.volume_base.proofs.Framed.{looked_both}
use Rattle.volume_base.proofs.Looked.{looked_again, looked_fault}
use Rattle.volume_base.proofs.OwnedFew.{loss_freed, loss_records}
use Rattle.volume_base.proofs.Still.{lists_still}
use Rattle.volume_base.proofs.volume.Volume.owned_values.Goals as goal

pub values_gone-requires-clause-listed : goal.values_gone-requires-clause-listed
values_gone-requires-clause-listed g c told =
    let tells = sym c.in_ok-names.ensures.looked.reads.looks.same.tells ∙ told in
    let most = loss_records c.args.self.now c.list_attributes.new.self (g.P.SectorView.space c.args.space.now) (g.P.SectorView.space c.list_attributes.new.space) c.in_ok-names.ensures.looked.reads tells (c.requires.serves.stands.stands tells).trees (c.requires.serves.settled tells) c.args.id in
    let listed = c.in_ok-names.ensures.listed tells in
    take_all c.min-count.result c.as_slice.result.now (omega (arith, c.min-count.ensures, c.len.ensures, c.count_records-records.ensures, most, ap (λ (l : List (List ℕ)). length l) listed, ap (λ (l : List (List ℕ)). length l) c.as_slice.ensures))
    ∙ c.as_slice.ensures ∙ listed ∙ ap (λ (l : VolumeState). names_of c.args.id l.attribute_pairs) (sym (lists_still c.args.self.now c.list_attributes.new.self (g.P.SectorView.space c.args.space.now) (g.P.SectorView.space c.list_attributes.new.space) c.in_ok-names.ensures.looked.reads tells))

pub returns-in_err-gone-clause-looked : goal.returns-in_err-gone-clause-looked
returns-in_err-gone-clause-looked g c = looked_fault c.from_residual-in_err-gone.ensures.1 (looked_both g.met.P.SectorView.follows_trans c.in_ok-names.ensures.looked c.in_err-gone.ensures.looked)

pub returns-clause-counted : goal.returns-clause-counted
returns-clause-counted g c tells =
    let most = loss_records c.args.self.now c.list_attributes.new.self (g.P.SectorView.space c.args.space.now) (g.P.SectorView.space c.list_attributes.new.space) c.in_ok-names.ensures.looked.reads tells (c.requires.serves.stands.stands tells).trees (c.requires.serves.settled tells) c.args.id in
    omega (arith, c.min-count.ensures, c.len.ensures, c.count_records-records.ensures, c.count_records-records.type_inv, most, ap (λ (l : List (List ℕ)). length l) (c.in_ok-names.ensures.listed tells))

pub returns-clause-change : goal.returns-clause-change
returns-clause-change g c tells =
    let stands = c.requires.serves.stands.stands tells in
    let settled = c.requires.serves.settled tells in
    let before = g.P.SectorView.space c.args.space.now in
    let behind = g.P.SectorView.space c.list_attributes.new.space in
    let is : c.in_ok-gone.gone ≡ values_owned (volume_of (g.P.SectorView.space c.args.space.now).content) c.args.id =
    c.in_ok-gone.ensures.change (c.in_ok-names.ensures.looked.reads.looks.same.tells ∙ tells) ∙ ap (λ (k : Content). values_owned (volume_of k) c.args.id) (c.in_ok-names.ensures.looked.reads.looks.content tells) in
    let most = loss_records c.args.self.now c.list_attributes.new.self before behind c.in_ok-names.ensures.looked.reads tells stands.trees settled c.args.id in
    let freed = loss_freed c.args.self.now c.list_attributes.new.self before behind c.in_ok-names.ensures.looked.reads tells stands.trees settled c.args.id in
    let total : length c.args.self.now.map.used < 2 ^ 32 = omega (arith, stands.blocks, c.requires.serves.stands.service.fits.total_blocks) in
    let same = c.usual_loss.ensures.same
    (omega (arith, c.min-count.ensures, c.len.ensures, c.count_records-records.ensures, c.count_records-records.type_inv, most, ap (λ (l : List (List ℕ)). length l) (c.in_ok-names.ensures.listed tells), ap (λ (x : ValueChange). x.records) is))
    (omega (arith, freed, total, ap (λ (x : ValueChange). x.freed) is)) in
    λ i. record { records = (same.0 ∙ ap (λ (x : ValueChange). x.records) is) i; freed = (same.1 ∙ ap (λ (x : ValueChange). x.freed) is) i; blocks = c.usual_loss.ensures.none i }

pub returns-clause-none : goal.returns-clause-none
returns-clause-none g c none =
    let empty : length c.in_ok-names.names ≡ 0 = c.in_ok-names.ensures.none none in
    let no_count : c.min-count.result ≡ 0 = omega (arith, c.min-count.ensures, c.len.ensures, empty) in
    let is : c.in_ok-gone.gone ≡ record { records = 0; freed = 0; blocks = 0 } = c.in_ok-gone.ensures.none (ap (λ n. length (take n c.as_slice.result.now)) no_count) in
    let same = c.usual_loss.ensures.same (omega (arith, no_count, ap (λ (x : ValueChange). x.records) is)) (omega (arith, ap (λ (x : ValueChange). x.freed) is)) in
    λ i. record { count = no_count i; change = record { records = (same.0 ∙ ap (λ (x : ValueChange). x.records) is) i; freed = (same.1 ∙ ap (λ (x : ValueChange). x.freed) is) i; blocks = c.usual_loss.ensures.none i } }

pub returns-clause-looked : goal.returns-clause-looked
returns-clause-looked g c = looked_again (looked_both g.met.P.SectorView.follows_trans c.in_ok-names.ensures.looked c.in_ok-gone.ensures.looked)
