use Rattle.std.proofs.Common.{◌≡◌, ◌∙◌, ℕ, List, [], map, inl, inr, ⊎_elim, refl, subst, sym}
use Rattle.sector_disk.specs.Disk.{content}
use Rattle.fsck_core.specs.Wants.{as_found}
use Rattle.hfsx_server.proofs.Finding.{unmounted}
use Rattle.hfsx_server.specs.Generating.{ToldPlayed}
use Rattle.cli_words.specs.Words.{AreFormat, AreWordsOf, texts}
use Rattle.cli_words.specs.declared.named.Work.{Work}
use Rattle.cli_words.specs.declared.named.Work.TheVariants.{Wrong}
use Rattle.hfs_serving.proofs.Served.{reads_heard, reads_keep}
use Rattle.sector_disk.proofs.Writing.{reads_none}
use Rattle.watchers.proofs.Tellings.{told_nothing}
use Rattle.cli_words.proofs.Usage.{in_use, no_check, no_check_of_gen, no_check_of_repair, no_check_of_sessions, no_format, no_format_of_gen, no_format_of_repair, no_format_of_sessions, no_gen_of_sessions, no_repair_of_gen, no_repair_of_sessions, no_run_of_gen, no_run_of_repair, no_run_of_sessions, not_both, not_format, same_count, same_sectors, same_seed}
use Rattle.hfsx_server.proofs.Repaired.{keeps_unread}
use Rattle.hfsx_server.proofs.SessionRuns.{sessions_unserved}
use Rattle.hfsx_server.proofs.top.hfsx.Goals as goal

named : (words : List (List ℕ)) (read work : Work) → read ≡ work → AreWordsOf words read → AreWordsOf words work
named words read work is are = subst (AreWordsOf words) is are

pub returns-else-sectors-clause-usage : goal.returns-else-sectors-clause-usage
returns-else-sectors-clause-usage g c =
    let words = texts c.args.words.now in (
      λ _ right. ⊎_elim (λ run. not_both words c.in-Ok-Format.sectors run (named (texts c.args.words.now) _ _ c.in-Ok-Format.field-0-is c.in-Ok-Format.ensures.work))
          (λ rest. ⊎_elim (λ check. no_format words c.in-Ok-Format.sectors check (named (texts c.args.words.now) _ _ c.in-Ok-Format.field-0-is c.in-Ok-Format.ensures.work))
          (λ further. ⊎_elim (λ repair. no_format_of_repair words c.in-Ok-Format.sectors repair (named (texts c.args.words.now) _ _ c.in-Ok-Format.field-0-is c.in-Ok-Format.ensures.work))
          (λ later. ⊎_elim (λ sessions. no_format_of_sessions words c.in-Ok-Format.sectors sessions (named (texts c.args.words.now) _ _ c.in-Ok-Format.field-0-is c.in-Ok-Format.ensures.work))
          (λ others. ⊎_elim (λ format. c.if-sectors.false (same_sectors words _ _ (named (texts c.args.words.now) _ _ c.in-Ok-Format.field-0-is c.in-Ok-Format.ensures.work) format ∙ sym c.sectors.ensures))
          (λ gen. no_format_of_gen words _ gen.0 gen.1 (named (texts c.args.words.now) _ _ c.in-Ok-Format.field-0-is c.in-Ok-Format.ensures.work) gen.2) others) later) further) rest) right,
      λ _. refl,
    )

pub returns-else-sectors-clause-format_refused : goal.returns-else-sectors-clause-format_refused
returns-else-sectors-clause-format_refused g c format =
    absurd (c.if-sectors.false (same_sectors (texts c.args.words.now) _ _ (named (texts c.args.words.now) _ _ c.in-Ok-Format.field-0-is c.in-Ok-Format.ensures.work) format ∙ sym c.sectors.ensures))

pub returns-in-Ok-Wrong-clause-usage : goal.returns-in-Ok-Wrong-clause-usage
returns-in-Ok-Wrong-clause-usage g c = (λ _ right. ⊎_elim (λ run. (named (texts c.args.words.now) _ _ c.in-Ok-Wrong.field-0-is c.in-Ok-Wrong.ensures.work).0 run) (λ rest. ⊎_elim (λ check. (named (texts c.args.words.now) _ _ c.in-Ok-Wrong.field-0-is c.in-Ok-Wrong.ensures.work).1 check) (λ further. ⊎_elim (λ repair. (named (texts c.args.words.now) _ _ c.in-Ok-Wrong.field-0-is c.in-Ok-Wrong.ensures.work).2 repair) (λ later. ⊎_elim (λ sessions. (named (texts c.args.words.now) _ _ c.in-Ok-Wrong.field-0-is c.in-Ok-Wrong.ensures.work).3 sessions) (λ others. ⊎_elim (λ format. (named (texts c.args.words.now) _ _ c.in-Ok-Wrong.field-0-is c.in-Ok-Wrong.ensures.work).4 _ format) (λ gen. (named (texts c.args.words.now) _ _ c.in-Ok-Wrong.field-0-is c.in-Ok-Wrong.ensures.work).5 gen.0 gen.1 gen.2) others) later) further) rest) right, λ _. refl)

pub returns-in-Ok-Wrong-clause-format_refused : goal.returns-in-Ok-Wrong-clause-format_refused
returns-in-Ok-Wrong-clause-format_refused g c format = absurd ((named (texts c.args.words.now) _ _ c.in-Ok-Wrong.field-0-is c.in-Ok-Wrong.ensures.work).4 _ format)

pub returns-then-sectors-clause-unwritten : goal.returns-then-sectors-clause-unwritten
returns-then-sectors-clause-unwritten g c either = ⊎_elim (λ refused. (c.format.ensures.refusal refused).candidates) (λ usage. absurd (c.format.ensures.no_usage usage)) either

pub returns-then-sectors-clause-run_refused : goal.returns-then-sectors-clause-run_refused
returns-then-sectors-clause-run_refused g c run tells is = absurd (not_both (texts c.args.words.now) c.in-Ok-Format.sectors run (named (texts c.args.words.now) _ _ c.in-Ok-Format.field-0-is c.in-Ok-Format.ensures.work))

pub returns-then-sectors-clause-run_refuses : goal.returns-then-sectors-clause-run_refuses
returns-then-sectors-clause-run_refuses g c run tells none = absurd (not_both (texts c.args.words.now) c.in-Ok-Format.sectors run (named (texts c.args.words.now) _ _ c.in-Ok-Format.field-0-is c.in-Ok-Format.ensures.work))

pub returns-then-sectors-clause-headline : goal.returns-then-sectors-clause-headline
returns-then-sectors-clause-headline g c run tells settled capacity start mounts = absurd (not_both (texts c.args.words.now) c.in-Ok-Format.sectors run (named (texts c.args.words.now) _ _ c.in-Ok-Format.field-0-is c.in-Ok-Format.ensures.work))

pub returns-then-sectors-clause-finished : goal.returns-then-sectors-clause-finished
returns-then-sectors-clause-finished g c run tells settled capacity start mounts is = absurd (not_both (texts c.args.words.now) c.in-Ok-Format.sectors run (named (texts c.args.words.now) _ _ c.in-Ok-Format.field-0-is c.in-Ok-Format.ensures.work))

pub returns-then-sectors-clause-end : goal.returns-then-sectors-clause-end
returns-then-sectors-clause-end g c run told is = absurd (not_both (texts c.args.words.now) c.in-Ok-Format.sectors run (named (texts c.args.words.now) _ _ c.in-Ok-Format.field-0-is c.in-Ok-Format.ensures.work))

pub returns-then-sectors-clause-few : goal.returns-then-sectors-clause-few
returns-then-sectors-clause-few g c run told is = absurd (not_both (texts c.args.words.now) c.in-Ok-Format.sectors run (named (texts c.args.words.now) _ _ c.in-Ok-Format.field-0-is c.in-Ok-Format.ensures.work))

pub returns-else-sectors-clause-run_refuses : goal.returns-else-sectors-clause-run_refuses
returns-else-sectors-clause-run_refuses g c run tells none = absurd (not_both (texts c.args.words.now) c.in-Ok-Format.sectors run (named (texts c.args.words.now) _ _ c.in-Ok-Format.field-0-is c.in-Ok-Format.ensures.work))

pub returns-in-Ok-Wrong-clause-run_refuses : goal.returns-in-Ok-Wrong-clause-run_refuses
returns-in-Ok-Wrong-clause-run_refuses g c run tells none = absurd ((named (texts c.args.words.now) _ _ c.in-Ok-Wrong.field-0-is c.in-Ok-Wrong.ensures.work).0 run)

pub returns-else-sectors-clause-headline : goal.returns-else-sectors-clause-headline
returns-else-sectors-clause-headline g c run tells settled capacity start mounts = absurd (not_both (texts c.args.words.now) c.in-Ok-Format.sectors run (named (texts c.args.words.now) _ _ c.in-Ok-Format.field-0-is c.in-Ok-Format.ensures.work))

pub returns-else-sectors-clause-finished : goal.returns-else-sectors-clause-finished
returns-else-sectors-clause-finished g c run tells settled capacity start mounts is = absurd (not_both (texts c.args.words.now) c.in-Ok-Format.sectors run (named (texts c.args.words.now) _ _ c.in-Ok-Format.field-0-is c.in-Ok-Format.ensures.work))

pub returns-in-Ok-Wrong-clause-headline : goal.returns-in-Ok-Wrong-clause-headline
returns-in-Ok-Wrong-clause-headline g c run tells settled capacity start mounts = absurd ((named (texts c.args.words.now) _ _ c.in-Ok-Wrong.field-0-is c.in-Ok-Wrong.ensures.work).0 run)

pub returns-in-Ok-Wrong-clause-finished : goal.returns-in-Ok-Wrong-clause-finished
returns-in-Ok-Wrong-clause-finished g c run tells settled capacity start mounts is = absurd ((named (texts c.args.words.now) _ _ c.in-Ok-Wrong.field-0-is c.in-Ok-Wrong.ensures.work).0 run)

pub returns-in-Ok-Run-clause-run_refused : goal.returns-in-Ok-Run-clause-run_refused
returns-in-Ok-Run-clause-run_refused g c run tells is =
    let told = c.run.ensures.refused tells is in (told, unmounted (content (g.R.SectorDisk.state c.args.rig.now)) (map as_found told.0) told.1 told.2)

pub returns-then-sectors-clause-source_stopped : goal.returns-then-sectors-clause-source_stopped
returns-then-sectors-clause-source_stopped g c run tells capacity start mounts is = absurd (not_both (texts c.args.words.now) c.in-Ok-Format.sectors run (named (texts c.args.words.now) _ _ c.in-Ok-Format.field-0-is c.in-Ok-Format.ensures.work))

pub returns-then-sectors-clause-many_stopped : goal.returns-then-sectors-clause-many_stopped
returns-then-sectors-clause-many_stopped g c run tells capacity start mounts is = absurd (not_both (texts c.args.words.now) c.in-Ok-Format.sectors run (named (texts c.args.words.now) _ _ c.in-Ok-Format.field-0-is c.in-Ok-Format.ensures.work))

pub returns-then-sectors-clause-check_sound : goal.returns-then-sectors-clause-check_sound
returns-then-sectors-clause-check_sound g c check tells is = absurd (no_format (texts c.args.words.now) c.in-Ok-Format.sectors check (named (texts c.args.words.now) _ _ c.in-Ok-Format.field-0-is c.in-Ok-Format.ensures.work))

pub returns-then-sectors-clause-check_found : goal.returns-then-sectors-clause-check_found
returns-then-sectors-clause-check_found g c check tells is = absurd (no_format (texts c.args.words.now) c.in-Ok-Format.sectors check (named (texts c.args.words.now) _ _ c.in-Ok-Format.field-0-is c.in-Ok-Format.ensures.work))

pub returns-then-sectors-clause-check_finds : goal.returns-then-sectors-clause-check_finds
returns-then-sectors-clause-check_finds g c check tells none = absurd (no_format (texts c.args.words.now) c.in-Ok-Format.sectors check (named (texts c.args.words.now) _ _ c.in-Ok-Format.field-0-is c.in-Ok-Format.ensures.work))

pub returns-then-sectors-clause-check_unwritten : goal.returns-then-sectors-clause-check_unwritten
returns-then-sectors-clause-check_unwritten g c check = absurd (no_format (texts c.args.words.now) c.in-Ok-Format.sectors check (named (texts c.args.words.now) _ _ c.in-Ok-Format.field-0-is c.in-Ok-Format.ensures.work))

pub returns-else-sectors-clause-check_sound : goal.returns-else-sectors-clause-check_sound
returns-else-sectors-clause-check_sound g c check tells is = absurd (no_format (texts c.args.words.now) c.in-Ok-Format.sectors check (named (texts c.args.words.now) _ _ c.in-Ok-Format.field-0-is c.in-Ok-Format.ensures.work))

pub returns-else-sectors-clause-check_found : goal.returns-else-sectors-clause-check_found
returns-else-sectors-clause-check_found g c check tells is = absurd (no_format (texts c.args.words.now) c.in-Ok-Format.sectors check (named (texts c.args.words.now) _ _ c.in-Ok-Format.field-0-is c.in-Ok-Format.ensures.work))

pub returns-else-sectors-clause-check_finds : goal.returns-else-sectors-clause-check_finds
returns-else-sectors-clause-check_finds g c check tells none = absurd (no_format (texts c.args.words.now) c.in-Ok-Format.sectors check (named (texts c.args.words.now) _ _ c.in-Ok-Format.field-0-is c.in-Ok-Format.ensures.work))

pub returns-else-sectors-clause-check_unwritten : goal.returns-else-sectors-clause-check_unwritten
returns-else-sectors-clause-check_unwritten g c check = absurd (no_format (texts c.args.words.now) c.in-Ok-Format.sectors check (named (texts c.args.words.now) _ _ c.in-Ok-Format.field-0-is c.in-Ok-Format.ensures.work))

pub returns-in-Ok-Run-clause-check_sound : goal.returns-in-Ok-Run-clause-check_sound
returns-in-Ok-Run-clause-check_sound g c check tells is = absurd (no_check (texts c.args.words.now) (named (texts c.args.words.now) _ _ c.in-Ok-Run.field-0-is c.in-Ok-Run.ensures.work) check)

pub returns-in-Ok-Run-clause-check_found : goal.returns-in-Ok-Run-clause-check_found
returns-in-Ok-Run-clause-check_found g c check tells is = absurd (no_check (texts c.args.words.now) (named (texts c.args.words.now) _ _ c.in-Ok-Run.field-0-is c.in-Ok-Run.ensures.work) check)

pub returns-in-Ok-Run-clause-check_finds : goal.returns-in-Ok-Run-clause-check_finds
returns-in-Ok-Run-clause-check_finds g c check tells none = absurd (no_check (texts c.args.words.now) (named (texts c.args.words.now) _ _ c.in-Ok-Run.field-0-is c.in-Ok-Run.ensures.work) check)

pub returns-in-Ok-Run-clause-check_unwritten : goal.returns-in-Ok-Run-clause-check_unwritten
returns-in-Ok-Run-clause-check_unwritten g c check = absurd (no_check (texts c.args.words.now) (named (texts c.args.words.now) _ _ c.in-Ok-Run.field-0-is c.in-Ok-Run.ensures.work) check)

pub returns-in-Ok-Wrong-clause-check_sound : goal.returns-in-Ok-Wrong-clause-check_sound
returns-in-Ok-Wrong-clause-check_sound g c check tells is = absurd ((named (texts c.args.words.now) _ _ c.in-Ok-Wrong.field-0-is c.in-Ok-Wrong.ensures.work).1 check)

pub returns-in-Ok-Wrong-clause-check_found : goal.returns-in-Ok-Wrong-clause-check_found
returns-in-Ok-Wrong-clause-check_found g c check tells is = absurd ((named (texts c.args.words.now) _ _ c.in-Ok-Wrong.field-0-is c.in-Ok-Wrong.ensures.work).1 check)

pub returns-in-Ok-Wrong-clause-check_finds : goal.returns-in-Ok-Wrong-clause-check_finds
returns-in-Ok-Wrong-clause-check_finds g c check tells none = absurd ((named (texts c.args.words.now) _ _ c.in-Ok-Wrong.field-0-is c.in-Ok-Wrong.ensures.work).1 check)

pub returns-in-Ok-Wrong-clause-check_unwritten : goal.returns-in-Ok-Wrong-clause-check_unwritten
returns-in-Ok-Wrong-clause-check_unwritten g c check = absurd ((named (texts c.args.words.now) _ _ c.in-Ok-Wrong.field-0-is c.in-Ok-Wrong.ensures.work).1 check)

pub returns-in-Ok-Check-clause-format_refused : goal.returns-in-Ok-Check-clause-format_refused
returns-in-Ok-Check-clause-format_refused g c format = absurd (no_format (texts c.args.words.now) _ (named (texts c.args.words.now) _ _ c.in-Ok-Check.field-0-is c.in-Ok-Check.ensures.work) format)

pub returns-in-Ok-Check-clause-format_refusal : goal.returns-in-Ok-Check-clause-format_refusal
returns-in-Ok-Check-clause-format_refusal g c format tells is = absurd (no_format (texts c.args.words.now) _ (named (texts c.args.words.now) _ _ c.in-Ok-Check.field-0-is c.in-Ok-Check.ensures.work) format)

pub returns-in-Ok-Check-clause-format_told : goal.returns-in-Ok-Check-clause-format_told
returns-in-Ok-Check-clause-format_told g c format tells is = absurd (no_format (texts c.args.words.now) _ (named (texts c.args.words.now) _ _ c.in-Ok-Check.field-0-is c.in-Ok-Check.ensures.work) format)

pub returns-in-Ok-Check-clause-format_made : goal.returns-in-Ok-Check-clause-format_made
returns-in-Ok-Check-clause-format_made g c format tells is = absurd (no_format (texts c.args.words.now) _ (named (texts c.args.words.now) _ _ c.in-Ok-Check.field-0-is c.in-Ok-Check.ensures.work) format)

pub returns-in-Ok-Check-clause-run_refused : goal.returns-in-Ok-Check-clause-run_refused
returns-in-Ok-Check-clause-run_refused g c run tells is = absurd (no_check (texts c.args.words.now) run (named (texts c.args.words.now) _ _ c.in-Ok-Check.field-0-is c.in-Ok-Check.ensures.work))

pub returns-in-Ok-Check-clause-run_refuses : goal.returns-in-Ok-Check-clause-run_refuses
returns-in-Ok-Check-clause-run_refuses g c run tells none = absurd (no_check (texts c.args.words.now) run (named (texts c.args.words.now) _ _ c.in-Ok-Check.field-0-is c.in-Ok-Check.ensures.work))

pub returns-in-Ok-Check-clause-headline : goal.returns-in-Ok-Check-clause-headline
returns-in-Ok-Check-clause-headline g c run tells settled capacity start mounts = absurd (no_check (texts c.args.words.now) run (named (texts c.args.words.now) _ _ c.in-Ok-Check.field-0-is c.in-Ok-Check.ensures.work))

pub returns-in-Ok-Check-clause-finished : goal.returns-in-Ok-Check-clause-finished
returns-in-Ok-Check-clause-finished g c run tells settled capacity start mounts is = absurd (no_check (texts c.args.words.now) run (named (texts c.args.words.now) _ _ c.in-Ok-Check.field-0-is c.in-Ok-Check.ensures.work))

pub returns-in-Ok-Check-clause-source_stopped : goal.returns-in-Ok-Check-clause-source_stopped
returns-in-Ok-Check-clause-source_stopped g c run tells capacity start mounts is = absurd (no_check (texts c.args.words.now) run (named (texts c.args.words.now) _ _ c.in-Ok-Check.field-0-is c.in-Ok-Check.ensures.work))

pub returns-in-Ok-Check-clause-many_stopped : goal.returns-in-Ok-Check-clause-many_stopped
returns-in-Ok-Check-clause-many_stopped g c run tells capacity start mounts is = absurd (no_check (texts c.args.words.now) run (named (texts c.args.words.now) _ _ c.in-Ok-Check.field-0-is c.in-Ok-Check.ensures.work))

pub returns-in-Ok-Check-clause-end : goal.returns-in-Ok-Check-clause-end
returns-in-Ok-Check-clause-end g c run told is = absurd (no_check (texts c.args.words.now) run (named (texts c.args.words.now) _ _ c.in-Ok-Check.field-0-is c.in-Ok-Check.ensures.work))

pub returns-in-Ok-Check-clause-few : goal.returns-in-Ok-Check-clause-few
returns-in-Ok-Check-clause-few g c run told is = absurd (no_check (texts c.args.words.now) run (named (texts c.args.words.now) _ _ c.in-Ok-Check.field-0-is c.in-Ok-Check.ensures.work))

pub returns-in-Ok-Check-clause-check_found : goal.returns-in-Ok-Check-clause-check_found
returns-in-Ok-Check-clause-check_found g c check tells is = (c.check.ensures.unsound tells is, c.check.ensures.found tells is)

pub returns-in-Ok-Check-clause-unwritten : goal.returns-in-Ok-Check-clause-unwritten
returns-in-Ok-Check-clause-unwritten g c either = c.check.ensures.unwritten

pub returns-in-Ok-Gen-clause-run_refused : goal.returns-in-Ok-Gen-clause-run_refused
returns-in-Ok-Gen-clause-run_refused g c run tells is = absurd (no_run_of_gen (texts c.args.words.now) _ _ run (named (texts c.args.words.now) _ _ c.in-Ok-Gen.field-0-is c.in-Ok-Gen.ensures.work))

pub returns-in-Ok-Gen-clause-run_refuses : goal.returns-in-Ok-Gen-clause-run_refuses
returns-in-Ok-Gen-clause-run_refuses g c run tells none = absurd (no_run_of_gen (texts c.args.words.now) _ _ run (named (texts c.args.words.now) _ _ c.in-Ok-Gen.field-0-is c.in-Ok-Gen.ensures.work))

pub returns-in-Ok-Gen-clause-headline : goal.returns-in-Ok-Gen-clause-headline
returns-in-Ok-Gen-clause-headline g c run tells settled capacity start mounts = absurd (no_run_of_gen (texts c.args.words.now) _ _ run (named (texts c.args.words.now) _ _ c.in-Ok-Gen.field-0-is c.in-Ok-Gen.ensures.work))

pub returns-in-Ok-Gen-clause-finished : goal.returns-in-Ok-Gen-clause-finished
returns-in-Ok-Gen-clause-finished g c run tells settled capacity start mounts is = absurd (no_run_of_gen (texts c.args.words.now) _ _ run (named (texts c.args.words.now) _ _ c.in-Ok-Gen.field-0-is c.in-Ok-Gen.ensures.work))

pub returns-in-Ok-Gen-clause-source_stopped : goal.returns-in-Ok-Gen-clause-source_stopped
returns-in-Ok-Gen-clause-source_stopped g c run tells settled capacity start mounts is = absurd (no_run_of_gen (texts c.args.words.now) _ _ run (named (texts c.args.words.now) _ _ c.in-Ok-Gen.field-0-is c.in-Ok-Gen.ensures.work))

pub returns-in-Ok-Gen-clause-many_stopped : goal.returns-in-Ok-Gen-clause-many_stopped
returns-in-Ok-Gen-clause-many_stopped g c run tells settled capacity start mounts is = absurd (no_run_of_gen (texts c.args.words.now) _ _ run (named (texts c.args.words.now) _ _ c.in-Ok-Gen.field-0-is c.in-Ok-Gen.ensures.work))

pub returns-in-Ok-Gen-clause-end : goal.returns-in-Ok-Gen-clause-end
returns-in-Ok-Gen-clause-end g c run told is = absurd (no_run_of_gen (texts c.args.words.now) _ _ run (named (texts c.args.words.now) _ _ c.in-Ok-Gen.field-0-is c.in-Ok-Gen.ensures.work))

pub returns-in-Ok-Gen-clause-few : goal.returns-in-Ok-Gen-clause-few
returns-in-Ok-Gen-clause-few g c run told is = absurd (no_run_of_gen (texts c.args.words.now) _ _ run (named (texts c.args.words.now) _ _ c.in-Ok-Gen.field-0-is c.in-Ok-Gen.ensures.work))

pub returns-in-Ok-Gen-clause-check_sound : goal.returns-in-Ok-Gen-clause-check_sound
returns-in-Ok-Gen-clause-check_sound g c check tells is = absurd (no_check_of_gen (texts c.args.words.now) _ _ check (named (texts c.args.words.now) _ _ c.in-Ok-Gen.field-0-is c.in-Ok-Gen.ensures.work))

pub returns-in-Ok-Gen-clause-check_found : goal.returns-in-Ok-Gen-clause-check_found
returns-in-Ok-Gen-clause-check_found g c check tells is = absurd (no_check_of_gen (texts c.args.words.now) _ _ check (named (texts c.args.words.now) _ _ c.in-Ok-Gen.field-0-is c.in-Ok-Gen.ensures.work))

pub returns-in-Ok-Gen-clause-check_finds : goal.returns-in-Ok-Gen-clause-check_finds
returns-in-Ok-Gen-clause-check_finds g c check tells none = absurd (no_check_of_gen (texts c.args.words.now) _ _ check (named (texts c.args.words.now) _ _ c.in-Ok-Gen.field-0-is c.in-Ok-Gen.ensures.work))

pub returns-in-Ok-Gen-clause-check_unwritten : goal.returns-in-Ok-Gen-clause-check_unwritten
returns-in-Ok-Gen-clause-check_unwritten g c check = absurd (no_check_of_gen (texts c.args.words.now) _ _ check (named (texts c.args.words.now) _ _ c.in-Ok-Gen.field-0-is c.in-Ok-Gen.ensures.work))

pub returns-in-Ok-Gen-clause-format_refused : goal.returns-in-Ok-Gen-clause-format_refused
returns-in-Ok-Gen-clause-format_refused g c format = absurd (no_format_of_gen (texts c.args.words.now) _ _ _ format (named (texts c.args.words.now) _ _ c.in-Ok-Gen.field-0-is c.in-Ok-Gen.ensures.work))

pub returns-in-Ok-Gen-clause-format_refusal : goal.returns-in-Ok-Gen-clause-format_refusal
returns-in-Ok-Gen-clause-format_refusal g c format tells is = absurd (no_format_of_gen (texts c.args.words.now) _ _ _ format (named (texts c.args.words.now) _ _ c.in-Ok-Gen.field-0-is c.in-Ok-Gen.ensures.work))

pub returns-in-Ok-Gen-clause-format_told : goal.returns-in-Ok-Gen-clause-format_told
returns-in-Ok-Gen-clause-format_told g c format tells is = absurd (no_format_of_gen (texts c.args.words.now) _ _ _ format (named (texts c.args.words.now) _ _ c.in-Ok-Gen.field-0-is c.in-Ok-Gen.ensures.work))

pub returns-in-Ok-Gen-clause-format_made : goal.returns-in-Ok-Gen-clause-format_made
returns-in-Ok-Gen-clause-format_made g c format tells is = absurd (no_format_of_gen (texts c.args.words.now) _ _ _ format (named (texts c.args.words.now) _ _ c.in-Ok-Gen.field-0-is c.in-Ok-Gen.ensures.work))

pub returns-in-Ok-Run-clause-gen_told : goal.returns-in-Ok-Run-clause-gen_told
returns-in-Ok-Run-clause-gen_told g c seed count gen tells done = absurd (no_run_of_gen (texts c.args.words.now) seed count (named (texts c.args.words.now) _ _ c.in-Ok-Run.field-0-is c.in-Ok-Run.ensures.work) gen)

pub returns-in-Ok-Run-clause-gen_unwritten : goal.returns-in-Ok-Run-clause-gen_unwritten
returns-in-Ok-Run-clause-gen_unwritten g c seed count gen = absurd (no_run_of_gen (texts c.args.words.now) seed count (named (texts c.args.words.now) _ _ c.in-Ok-Run.field-0-is c.in-Ok-Run.ensures.work) gen)

pub returns-in-Ok-Run-clause-gen_sound : goal.returns-in-Ok-Run-clause-gen_sound
returns-in-Ok-Run-clause-gen_sound g c seed count gen = absurd (no_run_of_gen (texts c.args.words.now) seed count (named (texts c.args.words.now) _ _ c.in-Ok-Run.field-0-is c.in-Ok-Run.ensures.work) gen)

pub returns-in-Ok-Check-clause-gen_told : goal.returns-in-Ok-Check-clause-gen_told
returns-in-Ok-Check-clause-gen_told g c seed count gen tells done = absurd (no_check_of_gen (texts c.args.words.now) seed count (named (texts c.args.words.now) _ _ c.in-Ok-Check.field-0-is c.in-Ok-Check.ensures.work) gen)

pub returns-in-Ok-Check-clause-gen_unwritten : goal.returns-in-Ok-Check-clause-gen_unwritten
returns-in-Ok-Check-clause-gen_unwritten g c seed count gen = absurd (no_check_of_gen (texts c.args.words.now) seed count (named (texts c.args.words.now) _ _ c.in-Ok-Check.field-0-is c.in-Ok-Check.ensures.work) gen)

pub returns-in-Ok-Check-clause-gen_sound : goal.returns-in-Ok-Check-clause-gen_sound
returns-in-Ok-Check-clause-gen_sound g c seed count gen = absurd (no_check_of_gen (texts c.args.words.now) seed count (named (texts c.args.words.now) _ _ c.in-Ok-Check.field-0-is c.in-Ok-Check.ensures.work) gen)

pub returns-then-sectors-clause-gen_told : goal.returns-then-sectors-clause-gen_told
returns-then-sectors-clause-gen_told g c seed count gen tells done = absurd (no_format_of_gen (texts c.args.words.now) _ seed count (named (texts c.args.words.now) _ _ c.in-Ok-Format.field-0-is c.in-Ok-Format.ensures.work) gen)

pub returns-then-sectors-clause-gen_unwritten : goal.returns-then-sectors-clause-gen_unwritten
returns-then-sectors-clause-gen_unwritten g c seed count gen = absurd (no_format_of_gen (texts c.args.words.now) _ seed count (named (texts c.args.words.now) _ _ c.in-Ok-Format.field-0-is c.in-Ok-Format.ensures.work) gen)

pub returns-then-sectors-clause-gen_sound : goal.returns-then-sectors-clause-gen_sound
returns-then-sectors-clause-gen_sound g c seed count gen = absurd (no_format_of_gen (texts c.args.words.now) _ seed count (named (texts c.args.words.now) _ _ c.in-Ok-Format.field-0-is c.in-Ok-Format.ensures.work) gen)

pub returns-else-sectors-clause-gen_told : goal.returns-else-sectors-clause-gen_told
returns-else-sectors-clause-gen_told g c seed count gen tells done = absurd (no_format_of_gen (texts c.args.words.now) _ seed count (named (texts c.args.words.now) _ _ c.in-Ok-Format.field-0-is c.in-Ok-Format.ensures.work) gen)

pub returns-else-sectors-clause-gen_unwritten : goal.returns-else-sectors-clause-gen_unwritten
returns-else-sectors-clause-gen_unwritten g c seed count gen = absurd (no_format_of_gen (texts c.args.words.now) _ seed count (named (texts c.args.words.now) _ _ c.in-Ok-Format.field-0-is c.in-Ok-Format.ensures.work) gen)

pub returns-else-sectors-clause-gen_sound : goal.returns-else-sectors-clause-gen_sound
returns-else-sectors-clause-gen_sound g c seed count gen = absurd (no_format_of_gen (texts c.args.words.now) _ seed count (named (texts c.args.words.now) _ _ c.in-Ok-Format.field-0-is c.in-Ok-Format.ensures.work) gen)

pub returns-in-Ok-Wrong-clause-gen_told : goal.returns-in-Ok-Wrong-clause-gen_told
returns-in-Ok-Wrong-clause-gen_told g c seed count gen tells done = absurd ((named (texts c.args.words.now) _ _ c.in-Ok-Wrong.field-0-is c.in-Ok-Wrong.ensures.work).5 seed count gen)

pub returns-in-Ok-Wrong-clause-gen_unwritten : goal.returns-in-Ok-Wrong-clause-gen_unwritten
returns-in-Ok-Wrong-clause-gen_unwritten g c seed count gen = absurd ((named (texts c.args.words.now) _ _ c.in-Ok-Wrong.field-0-is c.in-Ok-Wrong.ensures.work).5 seed count gen)

pub returns-in-Ok-Wrong-clause-gen_sound : goal.returns-in-Ok-Wrong-clause-gen_sound
returns-in-Ok-Wrong-clause-gen_sound g c seed count gen = absurd ((named (texts c.args.words.now) _ _ c.in-Ok-Wrong.field-0-is c.in-Ok-Wrong.ensures.work).5 seed count gen)

pub returns-in-Ok-Gen-clause-gen_told : goal.returns-in-Ok-Gen-clause-gen_told
returns-in-Ok-Gen-clause-gen_told g c seed count gen tells done = subst (λ (n : ℕ). ToldPlayed n count (g.R.SectorDisk.state c.args.rig.now) (g.R.SectorDisk.state c.generate.new.rig)) (same_seed (texts c.args.words.now) c.in-Ok-Gen.seed seed c.in-Ok-Gen.count count (named (texts c.args.words.now) _ _ c.in-Ok-Gen.field-0-is c.in-Ok-Gen.ensures.work) gen) (subst (λ (n : ℕ). ToldPlayed c.in-Ok-Gen.seed n (g.R.SectorDisk.state c.args.rig.now) (g.R.SectorDisk.state c.generate.new.rig)) (same_count (texts c.args.words.now) c.in-Ok-Gen.seed seed c.in-Ok-Gen.count count (named (texts c.args.words.now) _ _ c.in-Ok-Gen.field-0-is c.in-Ok-Gen.ensures.work) gen) (c.generate.ensures.told tells done))

pub returns-in-Ok-Gen-clause-gen_unwritten : goal.returns-in-Ok-Gen-clause-gen_unwritten
returns-in-Ok-Gen-clause-gen_unwritten g c seed count gen = (c.generate.ensures.unwritten, c.generate.ensures.barriers)

pub returns-in-Ok-Gen-clause-gen_sound : goal.returns-in-Ok-Gen-clause-gen_sound
returns-in-Ok-Gen-clause-gen_sound g c seed count gen = c.generate.ensures.sound

pub returns-then-sectors-clause-watched : goal.returns-then-sectors-clause-watched
returns-then-sectors-clause-watched g c run = absurd (not_both (texts c.args.words.now) c.in-Ok-Format.sectors run (named (texts c.args.words.now) _ _ c.in-Ok-Format.field-0-is c.in-Ok-Format.ensures.work))

pub returns-else-sectors-clause-watched : goal.returns-else-sectors-clause-watched
returns-else-sectors-clause-watched g c run = absurd (not_both (texts c.args.words.now) c.in-Ok-Format.sectors run (named (texts c.args.words.now) _ _ c.in-Ok-Format.field-0-is c.in-Ok-Format.ensures.work))

pub returns-in-Ok-Wrong-clause-watched : goal.returns-in-Ok-Wrong-clause-watched
returns-in-Ok-Wrong-clause-watched g c run = absurd ((named (texts c.args.words.now) _ _ c.in-Ok-Wrong.field-0-is c.in-Ok-Wrong.ensures.work).0 run)

pub returns-in-Ok-Check-clause-watched : goal.returns-in-Ok-Check-clause-watched
returns-in-Ok-Check-clause-watched g c run = absurd (no_check (texts c.args.words.now) run (named (texts c.args.words.now) _ _ c.in-Ok-Check.field-0-is c.in-Ok-Check.ensures.work))

pub returns-in-Ok-Gen-clause-watched : goal.returns-in-Ok-Gen-clause-watched
returns-in-Ok-Gen-clause-watched g c run = absurd (no_run_of_gen (texts c.args.words.now) _ _ run (named (texts c.args.words.now) _ _ c.in-Ok-Gen.field-0-is c.in-Ok-Gen.ensures.work))

pub returns-in-Ok-Run-clause-watched : goal.returns-in-Ok-Run-clause-watched
returns-in-Ok-Run-clause-watched g c run = c.run.ensures.watched

pub returns-in-Ok-Run-clause-unwatched : goal.returns-in-Ok-Run-clause-unwatched
returns-in-Ok-Run-clause-unwatched g c none _ = absurd (none (named (texts c.args.words.now) _ _ c.in-Ok-Run.field-0-is c.in-Ok-Run.ensures.work))

-- ---- no memory to read the words

pub returns-in-Format-clause-usage : goal.returns-in-Format-clause-usage
returns-in-Format-clause-usage g c =
    let words = texts c.args.words.now in (
      λ is right. c.refuse_format.ensures.usage.0 is (⊎_elim (λ run. absurd (not_both words c.in-Format.sectors run c.in-Format.ensures))
          (λ rest. ⊎_elim (λ check. absurd (no_format words c.in-Format.sectors check c.in-Format.ensures))
          (λ further. ⊎_elim (λ repair. absurd (no_format_of_repair words c.in-Format.sectors repair c.in-Format.ensures))
          (λ later. ⊎_elim (λ sessions. absurd (no_format_of_sessions words c.in-Format.sectors sessions c.in-Format.ensures))
          (λ others. ⊎_elim (λ format. same_sectors words _ _ c.in-Format.ensures format)
          (λ gen. absurd (no_format_of_gen words _ gen.0 gen.1 c.in-Format.ensures gen.2)) others) later) further) rest) right),
      λ other. c.refuse_format.ensures.usage.1 (λ same. other (inr (inr (inr (inr (inl (subst (AreFormat words) same c.in-Format.ensures))))))),
    )

pub returns-in-Format-clause-format_refused : goal.returns-in-Format-clause-format_refused
returns-in-Format-clause-format_refused g c format = c.refuse_format.ensures.refused (same_sectors (texts c.args.words.now) _ _ c.in-Format.ensures format)

pub returns-in-Format-clause-gen_sound : goal.returns-in-Format-clause-gen_sound
returns-in-Format-clause-gen_sound g c seed count gen = absurd (no_format_of_gen (texts c.args.words.now) _ seed count c.in-Format.ensures gen)

pub returns-in_default-clause-usage : goal.returns-in_default-clause-usage
returns-in_default-clause-usage g c =
    let words = texts c.args.words.now in
    let right : c.named_work.result ≡ Wrong → ⊥ = λ is. absurd (cc (c.in-Err.ensures.wrong (subst (AreWordsOf words) is c.named_work.ensures))) in (
      λ is. absurd (cc is),
      λ other. absurd (other (in_use words c.named_work.result _ c.named_work.ensures right c.in_default.not-Format)),
    )

pub returns-in_default-clause-format_refused : goal.returns-in_default-clause-format_refused
returns-in_default-clause-format_refused g c format = absurd (not_format (texts c.args.words.now) c.named_work.result _ c.named_work.ensures c.in_default.not-Format format)

pub returns-in_default-clause-headline : goal.returns-in_default-clause-headline
returns-in_default-clause-headline g c run tells settled capacity start mounts =
    let here = g.R.SectorDisk.state c.args.rig.now in
    reads_keep capacity start here here settled (g.met.R.SectorDisk.only_now c.args.rig.now) (reads_none here) mounts (g.S.Source.stream c.args.source.now)

pub returns-in_default-clause-watched : goal.returns-in_default-clause-watched
returns-in_default-clause-watched g c run =
    let here = g.R.SectorDisk.state c.args.rig.now in (
      [],
      λ stay. told_nothing _ _ c.args.watchers.now.items stay,
      λ tells settled capacity start mounts. record {
        keeps = reads_heard capacity start here here settled (g.met.R.SectorDisk.only_now c.args.rig.now) (reads_none here) mounts (g.S.Source.stream c.args.source.now);
        finished = λ is. absurd (cc is);
        stopped = λ is. absurd (cc is);
        last = λ is. absurd (cc is);
      },
    )

-- ---- a repair

pub returns-then-sectors-clause-repair_refused : goal.returns-then-sectors-clause-repair_refused
returns-then-sectors-clause-repair_refused g c repair tells is = absurd (no_format_of_repair (texts c.args.words.now) c.in-Ok-Format.sectors repair (named (texts c.args.words.now) _ _ c.in-Ok-Format.field-0-is c.in-Ok-Format.ensures.work))

pub returns-then-sectors-clause-repair_refuses : goal.returns-then-sectors-clause-repair_refuses
returns-then-sectors-clause-repair_refuses g c repair tells none = absurd (no_format_of_repair (texts c.args.words.now) c.in-Ok-Format.sectors repair (named (texts c.args.words.now) _ _ c.in-Ok-Format.field-0-is c.in-Ok-Format.ensures.work))

pub returns-then-sectors-clause-repair_unwritten : goal.returns-then-sectors-clause-repair_unwritten
returns-then-sectors-clause-repair_unwritten g c repair tells none = absurd (no_format_of_repair (texts c.args.words.now) c.in-Ok-Format.sectors repair (named (texts c.args.words.now) _ _ c.in-Ok-Format.field-0-is c.in-Ok-Format.ensures.work))

pub returns-then-sectors-clause-repair_keeps : goal.returns-then-sectors-clause-repair_keeps
returns-then-sectors-clause-repair_keeps g c repair tells settled capacity start mendable = absurd (no_format_of_repair (texts c.args.words.now) c.in-Ok-Format.sectors repair (named (texts c.args.words.now) _ _ c.in-Ok-Format.field-0-is c.in-Ok-Format.ensures.work))

pub returns-then-sectors-clause-repair_done : goal.returns-then-sectors-clause-repair_done
returns-then-sectors-clause-repair_done g c repair tells settled capacity start mendable is = absurd (no_format_of_repair (texts c.args.words.now) c.in-Ok-Format.sectors repair (named (texts c.args.words.now) _ _ c.in-Ok-Format.field-0-is c.in-Ok-Format.ensures.work))

pub returns-then-sectors-clause-repair_sound : goal.returns-then-sectors-clause-repair_sound
returns-then-sectors-clause-repair_sound g c repair tells settled capacity start mendable sound is = absurd (no_format_of_repair (texts c.args.words.now) c.in-Ok-Format.sectors repair (named (texts c.args.words.now) _ _ c.in-Ok-Format.field-0-is c.in-Ok-Format.ensures.work))

pub returns-else-sectors-clause-repair_refused : goal.returns-else-sectors-clause-repair_refused
returns-else-sectors-clause-repair_refused g c repair tells is = absurd (no_format_of_repair (texts c.args.words.now) c.in-Ok-Format.sectors repair (named (texts c.args.words.now) _ _ c.in-Ok-Format.field-0-is c.in-Ok-Format.ensures.work))

pub returns-else-sectors-clause-repair_refuses : goal.returns-else-sectors-clause-repair_refuses
returns-else-sectors-clause-repair_refuses g c repair tells none = absurd (no_format_of_repair (texts c.args.words.now) c.in-Ok-Format.sectors repair (named (texts c.args.words.now) _ _ c.in-Ok-Format.field-0-is c.in-Ok-Format.ensures.work))

pub returns-else-sectors-clause-repair_unwritten : goal.returns-else-sectors-clause-repair_unwritten
returns-else-sectors-clause-repair_unwritten g c repair tells none = absurd (no_format_of_repair (texts c.args.words.now) c.in-Ok-Format.sectors repair (named (texts c.args.words.now) _ _ c.in-Ok-Format.field-0-is c.in-Ok-Format.ensures.work))

pub returns-else-sectors-clause-repair_keeps : goal.returns-else-sectors-clause-repair_keeps
returns-else-sectors-clause-repair_keeps g c repair tells settled capacity start mendable = absurd (no_format_of_repair (texts c.args.words.now) c.in-Ok-Format.sectors repair (named (texts c.args.words.now) _ _ c.in-Ok-Format.field-0-is c.in-Ok-Format.ensures.work))

pub returns-else-sectors-clause-repair_done : goal.returns-else-sectors-clause-repair_done
returns-else-sectors-clause-repair_done g c repair tells settled capacity start mendable is = absurd (no_format_of_repair (texts c.args.words.now) c.in-Ok-Format.sectors repair (named (texts c.args.words.now) _ _ c.in-Ok-Format.field-0-is c.in-Ok-Format.ensures.work))

pub returns-else-sectors-clause-repair_sound : goal.returns-else-sectors-clause-repair_sound
returns-else-sectors-clause-repair_sound g c repair tells settled capacity start mendable sound is = absurd (no_format_of_repair (texts c.args.words.now) c.in-Ok-Format.sectors repair (named (texts c.args.words.now) _ _ c.in-Ok-Format.field-0-is c.in-Ok-Format.ensures.work))

pub returns-in-Ok-Run-clause-repair_refused : goal.returns-in-Ok-Run-clause-repair_refused
returns-in-Ok-Run-clause-repair_refused g c repair tells is = absurd (no_run_of_repair (texts c.args.words.now) repair (named (texts c.args.words.now) _ _ c.in-Ok-Run.field-0-is c.in-Ok-Run.ensures.work))

pub returns-in-Ok-Run-clause-repair_refuses : goal.returns-in-Ok-Run-clause-repair_refuses
returns-in-Ok-Run-clause-repair_refuses g c repair tells none = absurd (no_run_of_repair (texts c.args.words.now) repair (named (texts c.args.words.now) _ _ c.in-Ok-Run.field-0-is c.in-Ok-Run.ensures.work))

pub returns-in-Ok-Run-clause-repair_unwritten : goal.returns-in-Ok-Run-clause-repair_unwritten
returns-in-Ok-Run-clause-repair_unwritten g c repair tells none = absurd (no_run_of_repair (texts c.args.words.now) repair (named (texts c.args.words.now) _ _ c.in-Ok-Run.field-0-is c.in-Ok-Run.ensures.work))

pub returns-in-Ok-Run-clause-repair_keeps : goal.returns-in-Ok-Run-clause-repair_keeps
returns-in-Ok-Run-clause-repair_keeps g c repair tells settled capacity start mendable = absurd (no_run_of_repair (texts c.args.words.now) repair (named (texts c.args.words.now) _ _ c.in-Ok-Run.field-0-is c.in-Ok-Run.ensures.work))

pub returns-in-Ok-Run-clause-repair_done : goal.returns-in-Ok-Run-clause-repair_done
returns-in-Ok-Run-clause-repair_done g c repair tells settled capacity start mendable is = absurd (no_run_of_repair (texts c.args.words.now) repair (named (texts c.args.words.now) _ _ c.in-Ok-Run.field-0-is c.in-Ok-Run.ensures.work))

pub returns-in-Ok-Run-clause-repair_sound : goal.returns-in-Ok-Run-clause-repair_sound
returns-in-Ok-Run-clause-repair_sound g c repair tells settled capacity start mendable sound is = absurd (no_run_of_repair (texts c.args.words.now) repair (named (texts c.args.words.now) _ _ c.in-Ok-Run.field-0-is c.in-Ok-Run.ensures.work))

pub returns-in-Ok-Check-clause-repair_refused : goal.returns-in-Ok-Check-clause-repair_refused
returns-in-Ok-Check-clause-repair_refused g c repair tells is = absurd (no_check_of_repair (texts c.args.words.now) repair (named (texts c.args.words.now) _ _ c.in-Ok-Check.field-0-is c.in-Ok-Check.ensures.work))

pub returns-in-Ok-Check-clause-repair_refuses : goal.returns-in-Ok-Check-clause-repair_refuses
returns-in-Ok-Check-clause-repair_refuses g c repair tells none = absurd (no_check_of_repair (texts c.args.words.now) repair (named (texts c.args.words.now) _ _ c.in-Ok-Check.field-0-is c.in-Ok-Check.ensures.work))

pub returns-in-Ok-Check-clause-repair_unwritten : goal.returns-in-Ok-Check-clause-repair_unwritten
returns-in-Ok-Check-clause-repair_unwritten g c repair tells none = absurd (no_check_of_repair (texts c.args.words.now) repair (named (texts c.args.words.now) _ _ c.in-Ok-Check.field-0-is c.in-Ok-Check.ensures.work))

pub returns-in-Ok-Check-clause-repair_keeps : goal.returns-in-Ok-Check-clause-repair_keeps
returns-in-Ok-Check-clause-repair_keeps g c repair tells settled capacity start mendable = absurd (no_check_of_repair (texts c.args.words.now) repair (named (texts c.args.words.now) _ _ c.in-Ok-Check.field-0-is c.in-Ok-Check.ensures.work))

pub returns-in-Ok-Check-clause-repair_done : goal.returns-in-Ok-Check-clause-repair_done
returns-in-Ok-Check-clause-repair_done g c repair tells settled capacity start mendable is = absurd (no_check_of_repair (texts c.args.words.now) repair (named (texts c.args.words.now) _ _ c.in-Ok-Check.field-0-is c.in-Ok-Check.ensures.work))

pub returns-in-Ok-Check-clause-repair_sound : goal.returns-in-Ok-Check-clause-repair_sound
returns-in-Ok-Check-clause-repair_sound g c repair tells settled capacity start mendable sound is = absurd (no_check_of_repair (texts c.args.words.now) repair (named (texts c.args.words.now) _ _ c.in-Ok-Check.field-0-is c.in-Ok-Check.ensures.work))

pub returns-in-Ok-Gen-clause-repair_refused : goal.returns-in-Ok-Gen-clause-repair_refused
returns-in-Ok-Gen-clause-repair_refused g c repair tells is = absurd (no_repair_of_gen (texts c.args.words.now) _ _ repair (named (texts c.args.words.now) _ _ c.in-Ok-Gen.field-0-is c.in-Ok-Gen.ensures.work))

pub returns-in-Ok-Gen-clause-repair_refuses : goal.returns-in-Ok-Gen-clause-repair_refuses
returns-in-Ok-Gen-clause-repair_refuses g c repair tells none = absurd (no_repair_of_gen (texts c.args.words.now) _ _ repair (named (texts c.args.words.now) _ _ c.in-Ok-Gen.field-0-is c.in-Ok-Gen.ensures.work))

pub returns-in-Ok-Gen-clause-repair_unwritten : goal.returns-in-Ok-Gen-clause-repair_unwritten
returns-in-Ok-Gen-clause-repair_unwritten g c repair tells none = absurd (no_repair_of_gen (texts c.args.words.now) _ _ repair (named (texts c.args.words.now) _ _ c.in-Ok-Gen.field-0-is c.in-Ok-Gen.ensures.work))

pub returns-in-Ok-Gen-clause-repair_keeps : goal.returns-in-Ok-Gen-clause-repair_keeps
returns-in-Ok-Gen-clause-repair_keeps g c repair tells settled capacity start mendable = absurd (no_repair_of_gen (texts c.args.words.now) _ _ repair (named (texts c.args.words.now) _ _ c.in-Ok-Gen.field-0-is c.in-Ok-Gen.ensures.work))

pub returns-in-Ok-Gen-clause-repair_done : goal.returns-in-Ok-Gen-clause-repair_done
returns-in-Ok-Gen-clause-repair_done g c repair tells settled capacity start mendable is = absurd (no_repair_of_gen (texts c.args.words.now) _ _ repair (named (texts c.args.words.now) _ _ c.in-Ok-Gen.field-0-is c.in-Ok-Gen.ensures.work))

pub returns-in-Ok-Gen-clause-repair_sound : goal.returns-in-Ok-Gen-clause-repair_sound
returns-in-Ok-Gen-clause-repair_sound g c repair tells settled capacity start mendable sound is = absurd (no_repair_of_gen (texts c.args.words.now) _ _ repair (named (texts c.args.words.now) _ _ c.in-Ok-Gen.field-0-is c.in-Ok-Gen.ensures.work))

pub returns-in-Ok-Wrong-clause-repair_refused : goal.returns-in-Ok-Wrong-clause-repair_refused
returns-in-Ok-Wrong-clause-repair_refused g c repair tells is = absurd ((named (texts c.args.words.now) _ _ c.in-Ok-Wrong.field-0-is c.in-Ok-Wrong.ensures.work).2 repair)

pub returns-in-Ok-Wrong-clause-repair_refuses : goal.returns-in-Ok-Wrong-clause-repair_refuses
returns-in-Ok-Wrong-clause-repair_refuses g c repair tells none = absurd ((named (texts c.args.words.now) _ _ c.in-Ok-Wrong.field-0-is c.in-Ok-Wrong.ensures.work).2 repair)

pub returns-in-Ok-Wrong-clause-repair_unwritten : goal.returns-in-Ok-Wrong-clause-repair_unwritten
returns-in-Ok-Wrong-clause-repair_unwritten g c repair tells none = absurd ((named (texts c.args.words.now) _ _ c.in-Ok-Wrong.field-0-is c.in-Ok-Wrong.ensures.work).2 repair)

pub returns-in-Ok-Wrong-clause-repair_keeps : goal.returns-in-Ok-Wrong-clause-repair_keeps
returns-in-Ok-Wrong-clause-repair_keeps g c repair tells settled capacity start mendable = absurd ((named (texts c.args.words.now) _ _ c.in-Ok-Wrong.field-0-is c.in-Ok-Wrong.ensures.work).2 repair)

pub returns-in-Ok-Wrong-clause-repair_done : goal.returns-in-Ok-Wrong-clause-repair_done
returns-in-Ok-Wrong-clause-repair_done g c repair tells settled capacity start mendable is = absurd ((named (texts c.args.words.now) _ _ c.in-Ok-Wrong.field-0-is c.in-Ok-Wrong.ensures.work).2 repair)

pub returns-in-Ok-Wrong-clause-repair_sound : goal.returns-in-Ok-Wrong-clause-repair_sound
returns-in-Ok-Wrong-clause-repair_sound g c repair tells settled capacity start mendable sound is = absurd ((named (texts c.args.words.now) _ _ c.in-Ok-Wrong.field-0-is c.in-Ok-Wrong.ensures.work).2 repair)

pub returns-in-Format-clause-repair_refused : goal.returns-in-Format-clause-repair_refused
returns-in-Format-clause-repair_refused g c repair tells is = absurd (no_format_of_repair (texts c.args.words.now) c.in-Format.sectors repair c.in-Format.ensures)

pub returns-in-Format-clause-repair_refuses : goal.returns-in-Format-clause-repair_refuses
returns-in-Format-clause-repair_refuses g c repair tells none = absurd (no_format_of_repair (texts c.args.words.now) c.in-Format.sectors repair c.in-Format.ensures)

pub returns-in-Format-clause-repair_unwritten : goal.returns-in-Format-clause-repair_unwritten
returns-in-Format-clause-repair_unwritten g c repair tells none = absurd (no_format_of_repair (texts c.args.words.now) c.in-Format.sectors repair c.in-Format.ensures)

pub returns-in-Format-clause-repair_keeps : goal.returns-in-Format-clause-repair_keeps
returns-in-Format-clause-repair_keeps g c repair tells settled capacity start mendable = absurd (no_format_of_repair (texts c.args.words.now) c.in-Format.sectors repair c.in-Format.ensures)

pub returns-in-Format-clause-repair_done : goal.returns-in-Format-clause-repair_done
returns-in-Format-clause-repair_done g c repair tells settled capacity start mendable is = absurd (no_format_of_repair (texts c.args.words.now) c.in-Format.sectors repair c.in-Format.ensures)

pub returns-in-Format-clause-repair_sound : goal.returns-in-Format-clause-repair_sound
returns-in-Format-clause-repair_sound g c repair tells settled capacity start mendable sound is = absurd (no_format_of_repair (texts c.args.words.now) c.in-Format.sectors repair c.in-Format.ensures)

pub returns-in-Ok-Repair-clause-format_refused : goal.returns-in-Ok-Repair-clause-format_refused
returns-in-Ok-Repair-clause-format_refused g c format = absurd (no_format_of_repair (texts c.args.words.now) _ (named (texts c.args.words.now) _ _ c.in-Ok-Repair.field-0-is c.in-Ok-Repair.ensures.work) format)

pub returns-in-Ok-Repair-clause-format_refusal : goal.returns-in-Ok-Repair-clause-format_refusal
returns-in-Ok-Repair-clause-format_refusal g c format tells is = absurd (no_format_of_repair (texts c.args.words.now) _ (named (texts c.args.words.now) _ _ c.in-Ok-Repair.field-0-is c.in-Ok-Repair.ensures.work) format)

pub returns-in-Ok-Repair-clause-format_told : goal.returns-in-Ok-Repair-clause-format_told
returns-in-Ok-Repair-clause-format_told g c format tells is = absurd (no_format_of_repair (texts c.args.words.now) _ (named (texts c.args.words.now) _ _ c.in-Ok-Repair.field-0-is c.in-Ok-Repair.ensures.work) format)

pub returns-in-Ok-Repair-clause-format_made : goal.returns-in-Ok-Repair-clause-format_made
returns-in-Ok-Repair-clause-format_made g c format tells is = absurd (no_format_of_repair (texts c.args.words.now) _ (named (texts c.args.words.now) _ _ c.in-Ok-Repair.field-0-is c.in-Ok-Repair.ensures.work) format)

pub returns-in-Ok-Repair-clause-run_refused : goal.returns-in-Ok-Repair-clause-run_refused
returns-in-Ok-Repair-clause-run_refused g c run tells is = absurd (no_run_of_repair (texts c.args.words.now) (named (texts c.args.words.now) _ _ c.in-Ok-Repair.field-0-is c.in-Ok-Repair.ensures.work) run)

pub returns-in-Ok-Repair-clause-run_refuses : goal.returns-in-Ok-Repair-clause-run_refuses
returns-in-Ok-Repair-clause-run_refuses g c run tells none = absurd (no_run_of_repair (texts c.args.words.now) (named (texts c.args.words.now) _ _ c.in-Ok-Repair.field-0-is c.in-Ok-Repair.ensures.work) run)

pub returns-in-Ok-Repair-clause-headline : goal.returns-in-Ok-Repair-clause-headline
returns-in-Ok-Repair-clause-headline g c run tells settled capacity start mounts = absurd (no_run_of_repair (texts c.args.words.now) (named (texts c.args.words.now) _ _ c.in-Ok-Repair.field-0-is c.in-Ok-Repair.ensures.work) run)

pub returns-in-Ok-Repair-clause-finished : goal.returns-in-Ok-Repair-clause-finished
returns-in-Ok-Repair-clause-finished g c run tells settled capacity start mounts is = absurd (no_run_of_repair (texts c.args.words.now) (named (texts c.args.words.now) _ _ c.in-Ok-Repair.field-0-is c.in-Ok-Repair.ensures.work) run)

pub returns-in-Ok-Repair-clause-source_stopped : goal.returns-in-Ok-Repair-clause-source_stopped
returns-in-Ok-Repair-clause-source_stopped g c run tells settled capacity start mounts is = absurd (no_run_of_repair (texts c.args.words.now) (named (texts c.args.words.now) _ _ c.in-Ok-Repair.field-0-is c.in-Ok-Repair.ensures.work) run)

pub returns-in-Ok-Repair-clause-many_stopped : goal.returns-in-Ok-Repair-clause-many_stopped
returns-in-Ok-Repair-clause-many_stopped g c run tells settled capacity start mounts is = absurd (no_run_of_repair (texts c.args.words.now) (named (texts c.args.words.now) _ _ c.in-Ok-Repair.field-0-is c.in-Ok-Repair.ensures.work) run)

pub returns-in-Ok-Repair-clause-end : goal.returns-in-Ok-Repair-clause-end
returns-in-Ok-Repair-clause-end g c run told is = absurd (no_run_of_repair (texts c.args.words.now) (named (texts c.args.words.now) _ _ c.in-Ok-Repair.field-0-is c.in-Ok-Repair.ensures.work) run)

pub returns-in-Ok-Repair-clause-few : goal.returns-in-Ok-Repair-clause-few
returns-in-Ok-Repair-clause-few g c run told is = absurd (no_run_of_repair (texts c.args.words.now) (named (texts c.args.words.now) _ _ c.in-Ok-Repair.field-0-is c.in-Ok-Repair.ensures.work) run)

pub returns-in-Ok-Repair-clause-watched : goal.returns-in-Ok-Repair-clause-watched
returns-in-Ok-Repair-clause-watched g c run = absurd (no_run_of_repair (texts c.args.words.now) (named (texts c.args.words.now) _ _ c.in-Ok-Repair.field-0-is c.in-Ok-Repair.ensures.work) run)

pub returns-in-Ok-Repair-clause-check_sound : goal.returns-in-Ok-Repair-clause-check_sound
returns-in-Ok-Repair-clause-check_sound g c check tells is = absurd (no_check_of_repair (texts c.args.words.now) (named (texts c.args.words.now) _ _ c.in-Ok-Repair.field-0-is c.in-Ok-Repair.ensures.work) check)

pub returns-in-Ok-Repair-clause-check_found : goal.returns-in-Ok-Repair-clause-check_found
returns-in-Ok-Repair-clause-check_found g c check tells is = absurd (no_check_of_repair (texts c.args.words.now) (named (texts c.args.words.now) _ _ c.in-Ok-Repair.field-0-is c.in-Ok-Repair.ensures.work) check)

pub returns-in-Ok-Repair-clause-check_finds : goal.returns-in-Ok-Repair-clause-check_finds
returns-in-Ok-Repair-clause-check_finds g c check tells none = absurd (no_check_of_repair (texts c.args.words.now) (named (texts c.args.words.now) _ _ c.in-Ok-Repair.field-0-is c.in-Ok-Repair.ensures.work) check)

pub returns-in-Ok-Repair-clause-check_unwritten : goal.returns-in-Ok-Repair-clause-check_unwritten
returns-in-Ok-Repair-clause-check_unwritten g c check = absurd (no_check_of_repair (texts c.args.words.now) (named (texts c.args.words.now) _ _ c.in-Ok-Repair.field-0-is c.in-Ok-Repair.ensures.work) check)

pub returns-in-Ok-Repair-clause-gen_told : goal.returns-in-Ok-Repair-clause-gen_told
returns-in-Ok-Repair-clause-gen_told g c seed count gen tells done = absurd (no_repair_of_gen (texts c.args.words.now) _ _ (named (texts c.args.words.now) _ _ c.in-Ok-Repair.field-0-is c.in-Ok-Repair.ensures.work) gen)

pub returns-in-Ok-Repair-clause-gen_sound : goal.returns-in-Ok-Repair-clause-gen_sound
returns-in-Ok-Repair-clause-gen_sound g c seed count gen = absurd (no_repair_of_gen (texts c.args.words.now) _ _ (named (texts c.args.words.now) _ _ c.in-Ok-Repair.field-0-is c.in-Ok-Repair.ensures.work) gen)

pub returns-in-Ok-Repair-clause-gen_unwritten : goal.returns-in-Ok-Repair-clause-gen_unwritten
returns-in-Ok-Repair-clause-gen_unwritten g c seed count gen = absurd (no_repair_of_gen (texts c.args.words.now) _ _ (named (texts c.args.words.now) _ _ c.in-Ok-Repair.field-0-is c.in-Ok-Repair.ensures.work) gen)

pub returns-in-Ok-Repair-clause-unwritten : goal.returns-in-Ok-Repair-clause-unwritten
returns-in-Ok-Repair-clause-unwritten g c either = ⊎_elim (λ refused. (c.repair.ensures.unwritten refused).0) (λ usage. absurd (c.repair.ensures.no_usage usage)) either

pub returns-in-Ok-Repair-clause-repair_refused : goal.returns-in-Ok-Repair-clause-repair_refused
returns-in-Ok-Repair-clause-repair_refused g c repair tells is = c.repair.ensures.refused tells is

pub returns-in-Ok-Repair-clause-repair_refuses : goal.returns-in-Ok-Repair-clause-repair_refuses
returns-in-Ok-Repair-clause-repair_refuses g c repair tells none = c.repair.ensures.refuses tells none

pub returns-in-Ok-Repair-clause-repair_unwritten : goal.returns-in-Ok-Repair-clause-repair_unwritten
returns-in-Ok-Repair-clause-repair_unwritten g c repair tells none = c.repair.ensures.untouched tells none

pub returns-in-Ok-Repair-clause-repair_keeps : goal.returns-in-Ok-Repair-clause-repair_keeps
returns-in-Ok-Repair-clause-repair_keeps g c repair tells settled capacity start mendable = c.repair.ensures.keeps tells settled capacity start mendable

pub returns-in-Ok-Repair-clause-repair_done : goal.returns-in-Ok-Repair-clause-repair_done
returns-in-Ok-Repair-clause-repair_done g c repair tells settled capacity start mendable is = c.repair.ensures.done tells settled capacity start mendable is

pub returns-in-Ok-Repair-clause-repair_sound : goal.returns-in-Ok-Repair-clause-repair_sound
returns-in-Ok-Repair-clause-repair_sound g c repair tells settled capacity start mendable sound is = c.repair.ensures.sound tells settled capacity start mendable sound is

pub returns-in_default-clause-repair_keeps : goal.returns-in_default-clause-repair_keeps
returns-in_default-clause-repair_keeps g c repair tells settled capacity start mendable =
    let here = g.R.SectorDisk.state c.args.rig.now in
    keeps_unread capacity start here here settled (g.met.R.SectorDisk.only_now c.args.rig.now) (reads_none here) mendable

-- ---- sessions

pub returns-then-sectors-clause-sessions : goal.returns-then-sectors-clause-sessions
returns-then-sectors-clause-sessions g c sessions = absurd (no_format_of_sessions (texts c.args.words.now) c.in-Ok-Format.sectors sessions (named (texts c.args.words.now) _ _ c.in-Ok-Format.field-0-is c.in-Ok-Format.ensures.work))

pub returns-else-sectors-clause-sessions : goal.returns-else-sectors-clause-sessions
returns-else-sectors-clause-sessions g c sessions = absurd (no_format_of_sessions (texts c.args.words.now) c.in-Ok-Format.sectors sessions (named (texts c.args.words.now) _ _ c.in-Ok-Format.field-0-is c.in-Ok-Format.ensures.work))

pub returns-in-Ok-Run-clause-sessions : goal.returns-in-Ok-Run-clause-sessions
returns-in-Ok-Run-clause-sessions g c sessions = absurd (no_run_of_sessions (texts c.args.words.now) sessions (named (texts c.args.words.now) _ _ c.in-Ok-Run.field-0-is c.in-Ok-Run.ensures.work))

pub returns-in-Ok-Check-clause-sessions : goal.returns-in-Ok-Check-clause-sessions
returns-in-Ok-Check-clause-sessions g c sessions = absurd (no_check_of_sessions (texts c.args.words.now) sessions (named (texts c.args.words.now) _ _ c.in-Ok-Check.field-0-is c.in-Ok-Check.ensures.work))

pub returns-in-Ok-Repair-clause-sessions : goal.returns-in-Ok-Repair-clause-sessions
returns-in-Ok-Repair-clause-sessions g c sessions = absurd (no_repair_of_sessions (texts c.args.words.now) sessions (named (texts c.args.words.now) _ _ c.in-Ok-Repair.field-0-is c.in-Ok-Repair.ensures.work))

pub returns-in-Ok-Gen-clause-sessions : goal.returns-in-Ok-Gen-clause-sessions
returns-in-Ok-Gen-clause-sessions g c sessions = absurd (no_gen_of_sessions (texts c.args.words.now) _ _ sessions (named (texts c.args.words.now) _ _ c.in-Ok-Gen.field-0-is c.in-Ok-Gen.ensures.work))

pub returns-in-Ok-Wrong-clause-sessions : goal.returns-in-Ok-Wrong-clause-sessions
returns-in-Ok-Wrong-clause-sessions g c sessions = absurd ((named (texts c.args.words.now) _ _ c.in-Ok-Wrong.field-0-is c.in-Ok-Wrong.ensures.work).3 sessions)

pub returns-in-Format-clause-sessions : goal.returns-in-Format-clause-sessions
returns-in-Format-clause-sessions g c sessions = absurd (no_format_of_sessions (texts c.args.words.now) c.in-Format.sectors sessions c.in-Format.ensures)

pub returns-then-sectors-clause-sessions_watched : goal.returns-then-sectors-clause-sessions_watched
returns-then-sectors-clause-sessions_watched g c sessions = absurd (no_format_of_sessions (texts c.args.words.now) c.in-Ok-Format.sectors sessions (named (texts c.args.words.now) _ _ c.in-Ok-Format.field-0-is c.in-Ok-Format.ensures.work))

pub returns-else-sectors-clause-sessions_watched : goal.returns-else-sectors-clause-sessions_watched
returns-else-sectors-clause-sessions_watched g c sessions = absurd (no_format_of_sessions (texts c.args.words.now) c.in-Ok-Format.sectors sessions (named (texts c.args.words.now) _ _ c.in-Ok-Format.field-0-is c.in-Ok-Format.ensures.work))

pub returns-in-Ok-Run-clause-sessions_watched : goal.returns-in-Ok-Run-clause-sessions_watched
returns-in-Ok-Run-clause-sessions_watched g c sessions = absurd (no_run_of_sessions (texts c.args.words.now) sessions (named (texts c.args.words.now) _ _ c.in-Ok-Run.field-0-is c.in-Ok-Run.ensures.work))

pub returns-in-Ok-Check-clause-sessions_watched : goal.returns-in-Ok-Check-clause-sessions_watched
returns-in-Ok-Check-clause-sessions_watched g c sessions = absurd (no_check_of_sessions (texts c.args.words.now) sessions (named (texts c.args.words.now) _ _ c.in-Ok-Check.field-0-is c.in-Ok-Check.ensures.work))

pub returns-in-Ok-Repair-clause-sessions_watched : goal.returns-in-Ok-Repair-clause-sessions_watched
returns-in-Ok-Repair-clause-sessions_watched g c sessions = absurd (no_repair_of_sessions (texts c.args.words.now) sessions (named (texts c.args.words.now) _ _ c.in-Ok-Repair.field-0-is c.in-Ok-Repair.ensures.work))

pub returns-in-Ok-Gen-clause-sessions_watched : goal.returns-in-Ok-Gen-clause-sessions_watched
returns-in-Ok-Gen-clause-sessions_watched g c sessions = absurd (no_gen_of_sessions (texts c.args.words.now) _ _ sessions (named (texts c.args.words.now) _ _ c.in-Ok-Gen.field-0-is c.in-Ok-Gen.ensures.work))

pub returns-in-Ok-Wrong-clause-sessions_watched : goal.returns-in-Ok-Wrong-clause-sessions_watched
returns-in-Ok-Wrong-clause-sessions_watched g c sessions = absurd ((named (texts c.args.words.now) _ _ c.in-Ok-Wrong.field-0-is c.in-Ok-Wrong.ensures.work).3 sessions)

pub returns-in-Format-clause-sessions_watched : goal.returns-in-Format-clause-sessions_watched
returns-in-Format-clause-sessions_watched g c sessions = absurd (no_format_of_sessions (texts c.args.words.now) c.in-Format.sectors sessions c.in-Format.ensures)

pub returns-in-Ok-Sessions-clause-format_refused : goal.returns-in-Ok-Sessions-clause-format_refused
returns-in-Ok-Sessions-clause-format_refused g c format = absurd (no_format_of_sessions (texts c.args.words.now) _ (named (texts c.args.words.now) _ _ c.in-Ok-Sessions.field-0-is c.in-Ok-Sessions.ensures.work) format)

pub returns-in-Ok-Sessions-clause-format_refusal : goal.returns-in-Ok-Sessions-clause-format_refusal
returns-in-Ok-Sessions-clause-format_refusal g c format tells is = absurd (no_format_of_sessions (texts c.args.words.now) _ (named (texts c.args.words.now) _ _ c.in-Ok-Sessions.field-0-is c.in-Ok-Sessions.ensures.work) format)

pub returns-in-Ok-Sessions-clause-format_told : goal.returns-in-Ok-Sessions-clause-format_told
returns-in-Ok-Sessions-clause-format_told g c format tells is = absurd (no_format_of_sessions (texts c.args.words.now) _ (named (texts c.args.words.now) _ _ c.in-Ok-Sessions.field-0-is c.in-Ok-Sessions.ensures.work) format)

pub returns-in-Ok-Sessions-clause-format_made : goal.returns-in-Ok-Sessions-clause-format_made
returns-in-Ok-Sessions-clause-format_made g c format tells is = absurd (no_format_of_sessions (texts c.args.words.now) _ (named (texts c.args.words.now) _ _ c.in-Ok-Sessions.field-0-is c.in-Ok-Sessions.ensures.work) format)

pub returns-in-Ok-Sessions-clause-run_refused : goal.returns-in-Ok-Sessions-clause-run_refused
returns-in-Ok-Sessions-clause-run_refused g c run tells is = absurd (no_run_of_sessions (texts c.args.words.now) (named (texts c.args.words.now) _ _ c.in-Ok-Sessions.field-0-is c.in-Ok-Sessions.ensures.work) run)

pub returns-in-Ok-Sessions-clause-run_refuses : goal.returns-in-Ok-Sessions-clause-run_refuses
returns-in-Ok-Sessions-clause-run_refuses g c run tells none = absurd (no_run_of_sessions (texts c.args.words.now) (named (texts c.args.words.now) _ _ c.in-Ok-Sessions.field-0-is c.in-Ok-Sessions.ensures.work) run)

pub returns-in-Ok-Sessions-clause-headline : goal.returns-in-Ok-Sessions-clause-headline
returns-in-Ok-Sessions-clause-headline g c run tells settled capacity start mounts = absurd (no_run_of_sessions (texts c.args.words.now) (named (texts c.args.words.now) _ _ c.in-Ok-Sessions.field-0-is c.in-Ok-Sessions.ensures.work) run)

pub returns-in-Ok-Sessions-clause-finished : goal.returns-in-Ok-Sessions-clause-finished
returns-in-Ok-Sessions-clause-finished g c run tells settled capacity start mounts is = absurd (no_run_of_sessions (texts c.args.words.now) (named (texts c.args.words.now) _ _ c.in-Ok-Sessions.field-0-is c.in-Ok-Sessions.ensures.work) run)

pub returns-in-Ok-Sessions-clause-source_stopped : goal.returns-in-Ok-Sessions-clause-source_stopped
returns-in-Ok-Sessions-clause-source_stopped g c run tells settled capacity start mounts is = absurd (no_run_of_sessions (texts c.args.words.now) (named (texts c.args.words.now) _ _ c.in-Ok-Sessions.field-0-is c.in-Ok-Sessions.ensures.work) run)

pub returns-in-Ok-Sessions-clause-many_stopped : goal.returns-in-Ok-Sessions-clause-many_stopped
returns-in-Ok-Sessions-clause-many_stopped g c run tells settled capacity start mounts is = absurd (no_run_of_sessions (texts c.args.words.now) (named (texts c.args.words.now) _ _ c.in-Ok-Sessions.field-0-is c.in-Ok-Sessions.ensures.work) run)

pub returns-in-Ok-Sessions-clause-watched : goal.returns-in-Ok-Sessions-clause-watched
returns-in-Ok-Sessions-clause-watched g c run = absurd (no_run_of_sessions (texts c.args.words.now) (named (texts c.args.words.now) _ _ c.in-Ok-Sessions.field-0-is c.in-Ok-Sessions.ensures.work) run)

pub returns-in-Ok-Sessions-clause-end : goal.returns-in-Ok-Sessions-clause-end
returns-in-Ok-Sessions-clause-end g c run told is = absurd (no_run_of_sessions (texts c.args.words.now) (named (texts c.args.words.now) _ _ c.in-Ok-Sessions.field-0-is c.in-Ok-Sessions.ensures.work) run)

pub returns-in-Ok-Sessions-clause-few : goal.returns-in-Ok-Sessions-clause-few
returns-in-Ok-Sessions-clause-few g c run told is = absurd (no_run_of_sessions (texts c.args.words.now) (named (texts c.args.words.now) _ _ c.in-Ok-Sessions.field-0-is c.in-Ok-Sessions.ensures.work) run)

pub returns-in-Ok-Sessions-clause-check_sound : goal.returns-in-Ok-Sessions-clause-check_sound
returns-in-Ok-Sessions-clause-check_sound g c check tells is = absurd (no_check_of_sessions (texts c.args.words.now) (named (texts c.args.words.now) _ _ c.in-Ok-Sessions.field-0-is c.in-Ok-Sessions.ensures.work) check)

pub returns-in-Ok-Sessions-clause-check_found : goal.returns-in-Ok-Sessions-clause-check_found
returns-in-Ok-Sessions-clause-check_found g c check tells is = absurd (no_check_of_sessions (texts c.args.words.now) (named (texts c.args.words.now) _ _ c.in-Ok-Sessions.field-0-is c.in-Ok-Sessions.ensures.work) check)

pub returns-in-Ok-Sessions-clause-check_finds : goal.returns-in-Ok-Sessions-clause-check_finds
returns-in-Ok-Sessions-clause-check_finds g c check tells none = absurd (no_check_of_sessions (texts c.args.words.now) (named (texts c.args.words.now) _ _ c.in-Ok-Sessions.field-0-is c.in-Ok-Sessions.ensures.work) check)

pub returns-in-Ok-Sessions-clause-check_unwritten : goal.returns-in-Ok-Sessions-clause-check_unwritten
returns-in-Ok-Sessions-clause-check_unwritten g c check = absurd (no_check_of_sessions (texts c.args.words.now) (named (texts c.args.words.now) _ _ c.in-Ok-Sessions.field-0-is c.in-Ok-Sessions.ensures.work) check)

pub returns-in-Ok-Sessions-clause-gen_told : goal.returns-in-Ok-Sessions-clause-gen_told
returns-in-Ok-Sessions-clause-gen_told g c seed count gen tells done = absurd (no_gen_of_sessions (texts c.args.words.now) _ _ (named (texts c.args.words.now) _ _ c.in-Ok-Sessions.field-0-is c.in-Ok-Sessions.ensures.work) gen)

pub returns-in-Ok-Sessions-clause-gen_sound : goal.returns-in-Ok-Sessions-clause-gen_sound
returns-in-Ok-Sessions-clause-gen_sound g c seed count gen = absurd (no_gen_of_sessions (texts c.args.words.now) _ _ (named (texts c.args.words.now) _ _ c.in-Ok-Sessions.field-0-is c.in-Ok-Sessions.ensures.work) gen)

pub returns-in-Ok-Sessions-clause-gen_unwritten : goal.returns-in-Ok-Sessions-clause-gen_unwritten
returns-in-Ok-Sessions-clause-gen_unwritten g c seed count gen = absurd (no_gen_of_sessions (texts c.args.words.now) _ _ (named (texts c.args.words.now) _ _ c.in-Ok-Sessions.field-0-is c.in-Ok-Sessions.ensures.work) gen)

pub returns-in-Ok-Sessions-clause-repair_refused : goal.returns-in-Ok-Sessions-clause-repair_refused
returns-in-Ok-Sessions-clause-repair_refused g c repair tells is = absurd (no_repair_of_sessions (texts c.args.words.now) (named (texts c.args.words.now) _ _ c.in-Ok-Sessions.field-0-is c.in-Ok-Sessions.ensures.work) repair)

pub returns-in-Ok-Sessions-clause-repair_refuses : goal.returns-in-Ok-Sessions-clause-repair_refuses
returns-in-Ok-Sessions-clause-repair_refuses g c repair tells none = absurd (no_repair_of_sessions (texts c.args.words.now) (named (texts c.args.words.now) _ _ c.in-Ok-Sessions.field-0-is c.in-Ok-Sessions.ensures.work) repair)

pub returns-in-Ok-Sessions-clause-repair_unwritten : goal.returns-in-Ok-Sessions-clause-repair_unwritten
returns-in-Ok-Sessions-clause-repair_unwritten g c repair tells none = absurd (no_repair_of_sessions (texts c.args.words.now) (named (texts c.args.words.now) _ _ c.in-Ok-Sessions.field-0-is c.in-Ok-Sessions.ensures.work) repair)

pub returns-in-Ok-Sessions-clause-repair_keeps : goal.returns-in-Ok-Sessions-clause-repair_keeps
returns-in-Ok-Sessions-clause-repair_keeps g c repair tells settled capacity start mendable = absurd (no_repair_of_sessions (texts c.args.words.now) (named (texts c.args.words.now) _ _ c.in-Ok-Sessions.field-0-is c.in-Ok-Sessions.ensures.work) repair)

pub returns-in-Ok-Sessions-clause-repair_done : goal.returns-in-Ok-Sessions-clause-repair_done
returns-in-Ok-Sessions-clause-repair_done g c repair tells settled capacity start mendable is = absurd (no_repair_of_sessions (texts c.args.words.now) (named (texts c.args.words.now) _ _ c.in-Ok-Sessions.field-0-is c.in-Ok-Sessions.ensures.work) repair)

pub returns-in-Ok-Sessions-clause-repair_sound : goal.returns-in-Ok-Sessions-clause-repair_sound
returns-in-Ok-Sessions-clause-repair_sound g c repair tells settled capacity start mendable sound is = absurd (no_repair_of_sessions (texts c.args.words.now) (named (texts c.args.words.now) _ _ c.in-Ok-Sessions.field-0-is c.in-Ok-Sessions.ensures.work) repair)

pub returns-in-Ok-Sessions-clause-unwritten : goal.returns-in-Ok-Sessions-clause-unwritten
returns-in-Ok-Sessions-clause-unwritten g c either = ⊎_elim (λ refused. c.serve_sessions.ensures.unwritten refused) (λ usage. absurd (c.serve_sessions.ensures.no_usage usage)) either

pub returns-in-Ok-Sessions-clause-sessions : goal.returns-in-Ok-Sessions-clause-sessions
returns-in-Ok-Sessions-clause-sessions g c sessions = c.serve_sessions.ensures.serves

pub returns-in-Ok-Sessions-clause-sessions_watched : goal.returns-in-Ok-Sessions-clause-sessions_watched
returns-in-Ok-Sessions-clause-sessions_watched g c sessions = c.serve_sessions.ensures.watched

pub returns-in-Ok-Sessions-clause-unwatched : goal.returns-in-Ok-Sessions-clause-unwatched
returns-in-Ok-Sessions-clause-unwatched g c run none = absurd (none (named (texts c.args.words.now) _ _ c.in-Ok-Sessions.field-0-is c.in-Ok-Sessions.ensures.work))

pub returns-in_default-clause-sessions : goal.returns-in_default-clause-sessions
returns-in_default-clause-sessions g c sessions = sessions_unserved (g.R.SectorDisk.state c.args.rig.now) (g.R.SectorDisk.state c.args.rig.now) (g.met.R.SectorDisk.only_now c.args.rig.now) (reads_none (g.R.SectorDisk.state c.args.rig.now)) (g.S.Source.stream c.args.source.now) _ (inr refl)

pub returns-in_default-clause-sessions_watched : goal.returns-in_default-clause-sessions_watched
returns-in_default-clause-sessions_watched g c sessions = ([], λ stay. told_nothing _ _ c.args.watchers.now.items stay)
