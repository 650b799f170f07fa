-- Stages ask for commands whose paths are such as lines have.
use Rattle.std.proofs.Common.{◌≡◌, ◌<◌, ◌≤◌, ◌^◌, ℕ, Bool, true, false, List, [], ◌∷◌, length, refl, arith}
use Rattle.std.specs.Prelude.{IsAscii, decimal, suc, not, ◌&&◌, ◌==◌, if◌then◌else◌}
use Rattle.std.proofs.lemmas.Fmt.{IsAscii-decimal, decimal_nonempty, length-decimal-le}
use Rattle.name_text.specs.Laws.{AreUnits}
use Rattle.hfs_language.specs.declared.refusal.Refusal.{Refusal}
use Rattle.hfs_language.specs.declared.refusal.Refusal.TheVariants as refusal
use Rattle.hfs_language.specs.declared.reply.Facts.{Facts}
use Rattle.hfs_language.specs.declared.reply.Reply.{Reply}
use Rattle.hfs_language.specs.declared.reply.Reply.TheVariants as reply
use Rattle.hfs_language.specs.Written.{FitsPath, IsName}
use Rattle.open_files.specs.Handles.{is_held}
use Rattle.open_files.specs.Keeping.{keeping_name, keeping_path, kept_path}
use Rattle.open_files.specs.declared.act.OpenFile.{OpenFile}
use Rattle.session_lines.specs.declared.stages.Stage.{Stage}
use Rattle.session_lines.specs.declared.stages.Stage.TheVariants as stage
use Rattle.session_lines.specs.Stages.{FitsStage, closed, found_to_move, found_to_open, found_to_replace, found_to_take, found_to_tell, heard_at, is_root, is_skip, looked_for_folder, looked_for_kept, not_kept, takes, unless_refused, unless_skipped}

-- ---- the keeping folder's paths

-- ASCII is units
ascii_units : (bytes : List ℕ) → IsAscii bytes → AreUnits bytes
ascii_units [] is = tt
ascii_units (byte ∷ bytes) is = (omega (arith, is 0), ascii_units bytes (λ i. is (suc i)))

wider : (n : ℕ) → n < 2 ^ 32 → n < 2 ^ 64
wider n few = omega (arith, few)

pub keeping_fits : FitsPath keeping_path
keeping_fits = (record { some = omega arith; short = omega arith; units = (omega arith, (omega arith, (omega arith, (omega arith, (omega arith, (omega arith, (omega arith, (omega arith, (omega arith, (omega arith, (omega arith, (omega arith, (omega arith, (omega arith, (omega arith, (omega arith, tt)))))))))))))))) }, tt)

pub kept_fits : (id : ℕ) → id < 2 ^ 32 → FitsPath (kept_path id)
kept_fits id few = (keeping_fits.0, (record { some = decimal_nonempty id (wider id few); short = omega (arith, length-decimal-le 20 id (omega arith) (omega (arith, few)) (wider id few)); units = ascii_units (decimal id) (IsAscii-decimal id (wider id few)) }, tt))

-- ---- behind a reply

either : (b : Bool) (one other : Stage) → FitsStage one → FitsStage other → FitsStage (if b then one else other)
either true one other first second = first
either false one other first second = second

skipped_fits : (why : Refusal) (next : Stage) → FitsStage next → FitsStage (unless_skipped why next)
skipped_fits why next fits = either (is_skip why) (stage.Says (reply.No why)) next tt fits

takes_fits : (handles : List OpenFile) (path : List (List ℕ)) (facts : Facts) → FitsPath path → FitsStage (takes handles path facts)
takes_fits handles path facts fits = either (not facts.folder && is_held handles facts.id) (stage.Losing path facts) stage.Does fits tt

found_to_open_fits : (said : Reply) → FitsStage (found_to_open said)
found_to_open_fits reply.Ok = tt
found_to_open_fits (reply.Listing names) = tt
found_to_open_fits (reply.Facts facts) = either facts.folder (stage.Says (reply.No refusal.IsFolder)) (stage.Opens facts.id) tt tt
found_to_open_fits (reply.Content bytes) = tt
found_to_open_fits (reply.Gauge gauge) = tt
found_to_open_fits (reply.No why) = tt

found_to_tell_fits : (path : List (List ℕ)) (said : Reply) → FitsStage (found_to_tell path said)
found_to_tell_fits path reply.Ok = tt
found_to_tell_fits path (reply.Listing names) = tt
found_to_tell_fits path (reply.Facts facts) = either (not facts.folder) (stage.StatingFile facts) (if is_root path then stage.StatingRoot facts else stage.Says (reply.Facts facts)) tt (either (is_root path) (stage.StatingRoot facts) (stage.Says (reply.Facts facts)) tt tt)
found_to_tell_fits path (reply.Content bytes) = tt
found_to_tell_fits path (reply.Gauge gauge) = tt
found_to_tell_fits path (reply.No why) = tt

found_to_take_fits : (handles : List OpenFile) (path : List (List ℕ)) (said : Reply) → FitsPath path → FitsStage (found_to_take handles path said)
found_to_take_fits handles path reply.Ok fits = tt
found_to_take_fits handles path (reply.Listing names) fits = tt
found_to_take_fits handles path (reply.Facts facts) fits = takes_fits handles path facts fits
found_to_take_fits handles path (reply.Content bytes) fits = tt
found_to_take_fits handles path (reply.Gauge gauge) fits = tt
found_to_take_fits handles path (reply.No why) fits = skipped_fits why stage.Does tt

found_to_move_fits : (to : List (List ℕ)) (said : Reply) → FitsPath to → FitsStage (found_to_move to said)
found_to_move_fits to reply.Ok fits = tt
found_to_move_fits to (reply.Listing names) fits = tt
found_to_move_fits to (reply.Facts facts) fits = either facts.folder stage.Does (stage.Replacing facts.id to) tt fits
found_to_move_fits to (reply.Content bytes) fits = tt
found_to_move_fits to (reply.Gauge gauge) fits = tt
found_to_move_fits to (reply.No why) fits = skipped_fits why stage.Does tt

found_to_replace_fits : (handles : List OpenFile) (moved : ℕ) (to : List (List ℕ)) (said : Reply) → FitsPath to → FitsStage (found_to_replace handles moved to said)
found_to_replace_fits handles moved to reply.Ok fits = tt
found_to_replace_fits handles moved to (reply.Listing names) fits = tt
found_to_replace_fits handles moved to (reply.Facts facts) fits = either (facts.id == moved) stage.Does (takes handles to facts) tt (takes_fits handles to facts fits)
found_to_replace_fits handles moved to (reply.Content bytes) fits = tt
found_to_replace_fits handles moved to (reply.Gauge gauge) fits = tt
found_to_replace_fits handles moved to (reply.No why) fits = skipped_fits why stage.Does tt

looked_for_kept_fits : (path : List (List ℕ)) (facts : Facts) (said : Reply) → FitsPath path → FitsStage (looked_for_kept path facts said)
looked_for_kept_fits path facts reply.Ok fits = tt
looked_for_kept_fits path facts (reply.Listing names) fits = tt
looked_for_kept_fits path facts (reply.Facts found) fits = tt
looked_for_kept_fits path facts (reply.Content bytes) fits = tt
looked_for_kept_fits path facts (reply.Gauge gauge) fits = tt
looked_for_kept_fits path facts (reply.No why) fits = skipped_fits why (not_kept path facts) (either (facts.links == 1) (stage.Saving path facts.id) stage.Does fits tt)

looked_for_folder_fits : (path : List (List ℕ)) (id : ℕ) (said : Reply) → FitsPath path → FitsStage (looked_for_folder path id said)
looked_for_folder_fits path id reply.Ok fits = fits
looked_for_folder_fits path id (reply.Listing names) fits = fits
looked_for_folder_fits path id (reply.Facts facts) fits = fits
looked_for_folder_fits path id (reply.Content bytes) fits = fits
looked_for_folder_fits path id (reply.Gauge gauge) fits = fits
looked_for_folder_fits path id (reply.No why) fits = skipped_fits why (stage.Making path id) fits

unless_refused_fits : (next : Stage) (said : Reply) → FitsStage next → FitsStage (unless_refused next said)
unless_refused_fits next reply.Ok fits = fits
unless_refused_fits next (reply.Listing names) fits = fits
unless_refused_fits next (reply.Facts facts) fits = fits
unless_refused_fits next (reply.Content bytes) fits = fits
unless_refused_fits next (reply.Gauge gauge) fits = fits
unless_refused_fits next (reply.No why) fits = tt

closed_fits : (id : ℕ) (said : Reply) → FitsStage (closed id said)
closed_fits id reply.Ok = tt
closed_fits id (reply.Listing names) = tt
closed_fits id (reply.Facts facts) = either (facts.links == 1) (stage.Releasing id) stage.Rests tt tt
closed_fits id (reply.Content bytes) = tt
closed_fits id (reply.Gauge gauge) = tt
closed_fits id (reply.No why) = tt

-- Where a stage fits, so does the next one.
pub heard_fits : (handles : List OpenFile) (here : Stage) (said : Reply) → FitsStage here → FitsStage (heard_at handles here said)
heard_fits handles (stage.Opening path) said fits = found_to_open_fits said
heard_fits handles (stage.Listing path) said fits = tt
heard_fits handles (stage.Stating path) said fits = found_to_tell_fits path said
heard_fits handles (stage.StatingRoot facts) said fits = tt
heard_fits handles (stage.StatingFile facts) said fits = tt
heard_fits handles (stage.Taking path) said fits = found_to_take_fits handles path said fits
heard_fits handles (stage.Moving from to) said fits = found_to_move_fits to said fits.1
heard_fits handles (stage.Replacing moved to) said fits = found_to_replace_fits handles moved to said fits
heard_fits handles (stage.Losing path facts) said fits = looked_for_kept_fits path facts said fits
heard_fits handles (stage.Saving path id) said fits = looked_for_folder_fits path id said fits
heard_fits handles (stage.Making path id) said fits = unless_refused_fits (stage.Linking path id) said fits
heard_fits handles (stage.Linking path id) said fits = unless_refused_fits stage.Does said tt
heard_fits handles (stage.Closing id) said fits = closed_fits id said
heard_fits handles (stage.Releasing id) said fits = tt
heard_fits handles stage.Does said fits = tt
heard_fits handles (stage.Says other) said fits = tt
heard_fits handles (stage.Opens id) said fits = tt
heard_fits handles stage.Rests said fits = tt
