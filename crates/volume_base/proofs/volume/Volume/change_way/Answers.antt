use Rattle.std.specs.Prelude.{Ok, Err}
use Rattle.std.proofs.Common.{◌≡◌, ℕ, List, [], ◌∷◌, sym, ◌∙◌, ap, subst}
use Rattle.sector_disk.specs.Lists.{Content}
use Rattle.hfs_language.specs.Written.{FitsPath}
use Rattle.hfs_language.specs.declared.refusal.Refusal.{Refusal}
use Rattle.hfs_language.specs.declared.refusal.Refusal.TheVariants as refusal
use Rattle.hfs_language.specs.declared.reply.ChangeKind.TheVariants as change
use Rattle.hfs_model.specs.Step.{to_mv}
use Rattle.hfs_volume.specs.TreeOf.{tree_of}
use Rattle.volume_runs.specs.Told.{of_moved}
use Rattle.volume_base.specs.Lists.{lists_of}
use Rattle.volume_base.specs.Moving.{route_in, to_free}
use Rattle.volume_base.specs.Watching.{change_of}
use Rattle.volume_base.proofs.Freeing.{exists_is}
use Rattle.volume_base.proofs.Noticed.{not_told, pair_told}
use Rattle.volume_base.proofs.Routed.{way_not_free, way_refused}
use Rattle.volume_base.proofs.Sited.{fits_above, fits_name}
use Rattle.volume_base.proofs.Framed.{looked_both}
use Rattle.volume_base.proofs.Looked.{looked_fault, looked_short}
use Rattle.volume_base.proofs.volume.Volume.change_way.Goals as goal

pub route-requires-clause-from_fits : goal.route-requires-clause-from_fits
route-requires-clause-from_fits g c = subst FitsPath (sym c.as_slice.ensures) c.requires.from_fits

pub route-requires-clause-above_fits : goal.route-requires-clause-above_fits
route-requires-clause-above_fits g c = fits_above c.args.above.now c.args.old.now (subst FitsPath c.requires.split c.requires.from_fits)

pub route-requires-clause-under_fits : goal.route-requires-clause-under_fits
route-requires-clause-under_fits g c = fits_above c.args.under.now c.args.name.now (subst FitsPath c.requires.goal_split c.requires.to_fits)

pub route-requires-clause-name : goal.route-requires-clause-name
route-requires-clause-name g c = (fits_name c.args.under.now c.args.name.now (subst FitsPath c.requires.goal_split c.requires.to_fits)).short

pub returns-in_ok-one_change-in-Ok-clause-told : goal.returns-in_ok-one_change-in-Ok-clause-told
returns-in_ok-one_change-in-Ok-clause-told g c tells not_own goal_not_own pair is =
    let told = pair_told c.sound_has_plain_tree.ensures c.args.self.now (g.P.SectorView.space c.args.space.now).content (c.requires.serves.stands.stands tells).trees (c.requires.serves.settled tells) c.args.from.now c.args.to.now c.args.above.now c.args.under.now c.args.old.now c.args.name.now c.requires.split c.requires.goal_split not_own goal_not_own c.requires.from_fits c.requires.to_fits c.in_ok-way.field-0
    (subst (λ (p : List (List ℕ)). c.in_ok-way.field-0 ≡ route_in (lists_of c.args.self.now (g.P.SectorView.space c.args.space.now).content).catalog_pairs c.args.self.now.private p c.args.above.now c.args.under.now c.args.name.now) c.as_slice.ensures (c.in_ok-way.ensures.found tells)) c.in-Ok.way c.in-Ok.is pair is in
    c.in_ok-one_change-in-Ok.ensures ∙ (λ i. change_of c.args.line change.Moved (sym told.0 i) c.in-Ok.way.folder c.args.name.now ∷ []) ∙ (λ i. of_moved c.args.line (Ok (pair.0, sym told.1 i)))

pub change_over-requires-clause-taken : goal.change_over-requires-clause-taken
change_over-requires-clause-taken g c later not_own goal_not_own =
    let tells = sym c.route.ensures.looked.reads.looks.same.tells ∙ later in
    subst (λ (k : Content). to_free (tree_of k) c.args.from.now c.args.to.now ≡ Err refusal.Exists) (sym (c.route.ensures.looked.reads.looks.content tells))
    (way_not_free c.sound_has_plain_tree.ensures c.args.self.now (g.P.SectorView.space c.args.space.now).content (c.requires.serves.stands.stands tells).trees (c.requires.serves.settled tells) c.args.from.now c.args.to.now c.args.above.now c.args.under.now c.args.old.now c.args.name.now c.requires.split c.requires.goal_split not_own goal_not_own c.requires.from_fits c.requires.to_fits c.in_ok-way.field-0
    (subst (λ (p : List (List ℕ)). c.in_ok-way.field-0 ≡ route_in (lists_of c.args.self.now (g.P.SectorView.space c.args.space.now).content).catalog_pairs c.args.self.now.private p c.args.above.now c.args.under.now c.args.name.now) c.as_slice.ensures (c.in_ok-way.ensures.found tells)) c.in-Err.why c.in-Err.is ∙ ap (λ (w : Refusal). Err w) (exists_is c.in-Err.why (sym c.is_exists.ensures ∙ c.if-is_exists.true)))

pub returns-then-is_exists-clause-told : goal.returns-then-is_exists-clause-told
returns-then-is_exists-clause-told g c tells not_own goal_not_own pair is =
    c.change_over.ensures.told (c.route.ensures.looked.reads.looks.same.tells ∙ tells) not_own goal_not_own pair
    (subst (λ (k : Content). to_mv (tree_of k) c.args.from.now c.args.to.now ≡ Ok pair) (sym (c.route.ensures.looked.reads.looks.content tells)) is)

pub returns-then-is_exists-clause-looked : goal.returns-then-is_exists-clause-looked
returns-then-is_exists-clause-looked g c = looked_both g.met.P.SectorView.follows_trans c.route.ensures.looked c.change_over.ensures.looked

pub returns-else-is_exists-clause-told : goal.returns-else-is_exists-clause-told
returns-else-is_exists-clause-told g c tells not_own goal_not_own pair is =
    absurd (not_told (to_mv (tree_of (g.P.SectorView.space c.args.space.now).content) c.args.from.now c.args.to.now) c.in-Err.why pair
    (way_refused c.sound_has_plain_tree.ensures c.args.self.now (g.P.SectorView.space c.args.space.now).content (c.requires.serves.stands.stands tells).trees (c.requires.serves.settled tells) c.args.from.now c.args.to.now c.args.above.now c.args.under.now c.args.old.now c.args.name.now c.requires.split c.requires.goal_split not_own goal_not_own c.requires.from_fits c.requires.to_fits c.in_ok-way.field-0
    (subst (λ (p : List (List ℕ)). c.in_ok-way.field-0 ≡ route_in (lists_of c.args.self.now (g.P.SectorView.space c.args.space.now).content).catalog_pairs c.args.self.now.private p c.args.above.now c.args.under.now c.args.name.now) c.as_slice.ensures (c.in_ok-way.ensures.found tells)) c.in-Err.why c.in-Err.is (sym c.is_exists.ensures ∙ c.if-is_exists.false)) is)

pub returns-in_err-one_change-in-Ok-clause-looked : goal.returns-in_err-one_change-in-Ok-clause-looked
returns-in_err-one_change-in-Ok-clause-looked g c = looked_fault c.from_residual-in_err-one_change-in-Ok.ensures.1 (looked_short {U = ℕ} c.route.ensures.looked)
