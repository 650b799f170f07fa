use Rattle.std.proofs.Common.{◌≡◌, ◌<◌, ◌-◌, List, length, sym, ◌∙◌, ap, subst, arith}
use Rattle.std.specs.List.Sorted.{IsNonDecreasingBy}
use Rattle.std.proofs.lemmas.List.{with_items_is}
use Rattle.sector_disk.specs.Lists.{Content}
use Rattle.volume_repair.specs.Differing.{differing}
use Rattle.volume_repair.specs.Repair.{IsRepair}
use Rattle.fsck_repair.specs.Overlay.{overlaid, places_of, ChangesOnce}
use Rattle.fsck_repair.specs.Renewing.{IsRenewedHeader, with_headers}
use Rattle.fsck_repair.specs.declared.mend.Change.{Change}
use Rattle.fsck_repair.proofs.HeaderLaws.{many_sectors}
use Rattle.fsck_repair.proofs.RenewLaws.{head_renewed, renewed_differ, renewed_repair, same_places, still_once, still_sorted}
use Rattle.fsck_repair.proofs.mend.Mend.renewed.Goals as goal

pub invariant_of-result : goal.invariant_of-result
invariant_of-result g c =
    let changes = c.args.self.changes.items in
    let last = c.sectors-last.result - 2 in
    let head = c.renew_header.new.head in
    let long : length c.change_headers.new.changes ≡ c.args.self.changes.len = omega (arith, c.change_headers.auto.changes, c.as_mut_slice.ensures.len) in
    let items_is = with_items_is c.args.self.changes c.change_headers.new.changes long ∙ c.change_headers.ensures ∙ ap (λ (l : List Change). with_headers last head l) c.as_mut_slice.ensures.value in
    record { sorted = subst (λ (l : List Change). IsNonDecreasingBy (λ (change : Change). change.at) l) (sym items_is) (still_sorted last head changes c.args.self.sorted) }

pub returns-clause-repair : goal.returns-clause-repair
returns-clause-repair g c tells start is mount =
    let now : Content = (g.V.SectorView.space c.args.view.now).content in
    let size = g.met.V.SectorView.well_formed c.args.view.now tells in
    let changes = c.args.self.changes.items in
    let last = c.sectors-last.result - 2 in
    let head = c.renew_header.new.head in
    let long : length c.change_headers.new.changes ≡ c.args.self.changes.len = omega (arith, c.change_headers.auto.changes, c.as_mut_slice.ensures.len) in
    let items_is = with_items_is c.args.self.changes c.change_headers.new.changes long ∙ c.change_headers.ensures ∙ ap (λ (l : List Change). with_headers last head l) c.as_mut_slice.ensures.value in
    let many = many_sectors (g.V.SectorView.space c.args.view.now).sectors c.requires in
    let inside : 2 < length now = omega (arith, many, size) in
    let put = subst (λ (l : List Change). IsRenewedHeader l c.get.new.into head) c.as_slice.ensures.value c.renew_header.ensures in
    let head_is = head_renewed c.repair_is_renewed.ensures c.repair_stays_remounted.ensures start now changes is mount c.get.new.into head inside (c.in_ok-get.ensures.value tells) put in
    let last_is : last ≡ length now - 2 = ap (λ n. n - 2) (c.sectors-last.ensures ∙ c.get.ensures.same.sectors ∙ sym size) in
    subst (λ (l : List Change). IsRepair now (overlaid l now)) (sym items_is) (renewed_repair c.repair_is_renewed.ensures c.repair_stays_remounted.ensures start now changes is mount last head last_is head_is)

pub returns-clause-differ : goal.returns-clause-differ
returns-clause-differ g c tells start is mount =
    let now : Content = (g.V.SectorView.space c.args.view.now).content in
    let size = g.met.V.SectorView.well_formed c.args.view.now tells in
    let changes = c.args.self.changes.items in
    let last = c.sectors-last.result - 2 in
    let head = c.renew_header.new.head in
    let long : length c.change_headers.new.changes ≡ c.args.self.changes.len = omega (arith, c.change_headers.auto.changes, c.as_mut_slice.ensures.len) in
    let items_is = with_items_is c.args.self.changes c.change_headers.new.changes long ∙ c.change_headers.ensures ∙ ap (λ (l : List Change). with_headers last head l) c.as_mut_slice.ensures.value in
    let many = many_sectors (g.V.SectorView.space c.args.view.now).sectors c.requires in
    let inside : 2 < length now = omega (arith, many, size) in
    let put = subst (λ (l : List Change). IsRenewedHeader l c.get.new.into head) c.as_slice.ensures.value c.renew_header.ensures in
    let head_is = head_renewed c.repair_is_renewed.ensures c.repair_stays_remounted.ensures start now changes is mount c.get.new.into head inside (c.in_ok-get.ensures.value tells) put in
    let last_is : last ≡ length now - 2 = ap (λ n. n - 2) (c.sectors-last.ensures ∙ c.get.ensures.same.sectors ∙ sym size) in
    subst (λ (l : List Change). length l ≡ differing now (overlaid l now)) (sym items_is) (renewed_differ c.repair_is_renewed.ensures c.repair_stays_remounted.ensures start now changes is mount last head last_is head_is)

pub returns-clause-once : goal.returns-clause-once
returns-clause-once g c once =
    let changes = c.args.self.changes.items in
    let last = c.sectors-last.result - 2 in
    let head = c.renew_header.new.head in
    let long : length c.change_headers.new.changes ≡ c.args.self.changes.len = omega (arith, c.change_headers.auto.changes, c.as_mut_slice.ensures.len) in
    let items_is = with_items_is c.args.self.changes c.change_headers.new.changes long ∙ c.change_headers.ensures ∙ ap (λ (l : List Change). with_headers last head l) c.as_mut_slice.ensures.value in
    subst (λ (l : List Change). ChangesOnce l) (sym items_is) (still_once last head changes once)

pub returns-clause-places : goal.returns-clause-places
returns-clause-places g c =
    let changes = c.args.self.changes.items in
    let last = c.sectors-last.result - 2 in
    let head = c.renew_header.new.head in
    let long : length c.change_headers.new.changes ≡ c.args.self.changes.len = omega (arith, c.change_headers.auto.changes, c.as_mut_slice.ensures.len) in
    let items_is = with_items_is c.args.self.changes c.change_headers.new.changes long ∙ c.change_headers.ensures ∙ ap (λ (l : List Change). with_headers last head l) c.as_mut_slice.ensures.value in
    ap (λ (l : List Change). places_of l) items_is ∙ same_places last head changes
