use Rattle.std.proofs.Common.{◌≡◌, ◌∙◌, sym, ap, subst, true, false}
use Rattle.std.specs.Prelude.{IfSome, T}
use Rattle.btree_node.specs.Tree.{pairs_of}
use Rattle.cat_records.specs.Fits.{FitsRecord}
use Rattle.hfs_volume.specs.Records.{is_thread}
use Rattle.catalog.proofs.Removals.{found_is_no_thread}
use Rattle.catalog.proofs.finding.entry_at.Goals as goal

pub returns-then-is_thread_record-clause-found : goal.returns-then-is_thread_record-clause-found
returns-then-is_thread_record-clause-found g c tells =
    let named = found_is_no_thread c.args.parent c.args.name.now (pairs_of (g.N.NodeStore.state c.args.store.now)) c.in-Some.rec (c.requires.threads tells) c.requires.some (sym (c.in_ok-rec.ensures.found tells) ∙ c.in-Some.is) in
    absurd (subst T (sym c.if-is_thread_record.true ∙ c.is_thread_record.ensures ∙ named) tt)

pub returns-clause-fits : goal.returns-clause-fits
returns-clause-fits g c =
    (subst (λ found. IfSome found (λ rec. is_thread rec ≡ false → FitsRecord rec)) c.in-Some.is c.in_ok-rec.ensures.fits) (sym c.is_thread_record.ensures ∙ c.if-is_thread_record.false)
