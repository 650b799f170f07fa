use Rattle.std.proofs.Common.{◌≡◌, refl, sym, ◌∙◌, ap, subst}
use Rattle.std.specs.Prelude.{None, Some}
use Rattle.btree_node.specs.Tree.{pairs_of}
use Rattle.cat_records.specs.declared.record.CatRecord.TheVariants.{File}
use Rattle.catalog.specs.Pairs.{value_at}
use Rattle.hard_links.specs.Orphans.{file_in}
use Rattle.hard_links.proofs.Asides.{file_fits, file_value}
use Rattle.hard_links.proofs.shared.named_file.Goals as goal

pub returns-in-None-clause-found : goal.returns-in-None-clause-found
returns-in-None-clause-found g c tells =
    let pairs = pairs_of (g.N.NodeStore.state c.args.store.now) in
    sym (sym (c.in-None.is) ∙ c.file_in.ensures ∙ ap file_in (c.in_ok-lookup.ensures.found tells) ∙ ap (λ l. file_in (value_at pairs c.args.private l)) c.in_ok-name.ensures.name)

pub returns-in-Some-clause-found : goal.returns-in-Some-clause-found
returns-in-Some-clause-found g c tells =
    let pairs = pairs_of (g.N.NodeStore.state c.args.store.now) in
    let found = c.in_ok-lookup.field-0 in
    let value = file_value found c.in-Some.file (sym c.in-Some.is ∙ c.file_in.ensures) in
    (refl, c.in_ok-name.ensures.name, ap (λ l. value_at pairs c.args.private l) (sym c.in_ok-name.ensures.name) ∙ sym (c.in_ok-lookup.ensures.found tells) ∙ value)

pub returns-in-Some-clause-fits : goal.returns-in-Some-clause-fits
returns-in-Some-clause-fits g c = file_fits c.in_ok-lookup.field-0 c.in-Some.file (sym c.in-Some.is ∙ c.file_in.ensures) c.in_ok-lookup.ensures.fits
