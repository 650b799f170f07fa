use Rattle.std.proofs.Common.{◌≡◌, ◌≤◌, ◌<◌, ◌+◌, List, ℕ, length, sym, ◌∙◌, ap, arith}
use Rattle.std.specs.Prelude.{Option, None}
use Rattle.sector_disk.specs.Disk.{content}
use Rattle.jnl_format.specs.Recovery.{homes_of, volume_of, with_homes}
use Rattle.jnl_format.specs.declared.blocks.Home.{Home}
use Rattle.jnl_replay.specs.Plan.{journal_of}
use Rattle.jnl_replay.specs.Runs.{place_in_runs, place_in_both}
use Rattle.jnl_replay.specs.Text.{words}
use Rattle.jnl_replay.specs.declared.runs.Run.{Run}
use Rattle.jnl_replay.specs.declared.text.Text.{Text}
use Rattle.jnl_replay.proofs.Checks.{length-content}
use Rattle.jnl_replay.proofs.Common.{at_some}
use Rattle.jnl_replay.proofs.Homed.{given_next, given_none}
use Rattle.jnl_replay.proofs.Peeks.{indexed_start, indexed_step, indexed_end, still_placed, shown_is}
use Rattle.sector_disk.proofs.Writing.{reads_none, reads_both}
use Rattle.jnl_replay.proofs.ReadOn.{same_words, tells_then}
use Rattle.jnl_replay.proofs.Stages.{homes_of_plan, words_of_plan}
use Rattle.jnl_replay.proofs.index.Peek.new_as.Goals as goal

pub loop-runs-smaller : goal.loop-runs-smaller
loop-runs-smaller g c =
    let inv = c.loop-runs.invariant in
    let f = at_some (λ (h : Home). (c.loop-runs.homes.reached < c.next.new.self.reached) × (c.next.new.self.reached ≤ c.loop-runs.homes.text.length)) c.in_ok-home.field-0 c.in-Some.home c.in-Some.is c.in_ok-home.ensures.further in
    omega (arith, f.0, f.1, ap (λ (t : Text). t.length) inv.text)

pub loop-runs-init : goal.loop-runs-init
loop-runs-init g c =
    let s0 = g.D.SectorDisk.state c.args.disk.now in
    let t = c.text_of-text.result in
    record {
      reads = reads_none s0;
      cursor = c.new-homes.ensures.cursor;
      text = c.new-homes.ensures.text;
      few = omega (arith, c.new-homes.ensures.sectors, c.sectors-sectors.ensures, c.requires.fits.sectors);
      placed = λ at p is. absurd (let e = no_place at in cc);
      whole = λ none k inside. absurd (omega (arith, inside, ap (λ (l : List Run). length l) c.new-runs.ensures.items));
      value = λ tells volume homes a.
          indexed_start s0.sectors t (words t (content s0)) volume homes c.new-homes.result s0 (place_in_both c.new-index.result c.new-runs.result.items) a c.new-homes.ensures.text (c.new-homes.ensures.sectors ∙ c.sectors-sectors.ensures) c.new-homes.ensures.start
          no_place;
    }
  where
    no_place : (at : ℕ) → place_in_both c.new-index.result c.new-runs.result.items at ≡ None
    no_place at = ap (λ (l : List Run). place_in_both c.new-index.result l at) c.new-runs.ensures.items ∙ ap (λ (l : List Run). place_in_runs l at) c.new-index.ensures

pub loop-runs-preserved : goal.loop-runs-preserved
loop-runs-preserved g c =
    let s0 = g.D.SectorDisk.state c.args.disk.now in
    let s1 = g.D.SectorDisk.state c.loop-runs.disk in
    let s2 = g.D.SectorDisk.state c.next.new.disk in
    let inv = c.loop-runs.invariant in
    let t = c.text_of-text.result in
    let w = words t (content s0) in
    let cur = c.loop-runs.homes in
    let reads = c.next.ensures.reads in
    let home = c.in-Some.home in
    let old : ℕ → Option ℕ = place_in_both c.loop-runs.index c.loop-runs.runs.items in
    let new : ℕ → Option ℕ = place_in_both c.add.new.self c.add.new.runs.items in
    let put = c.in_ok-add.ensures.puts in
    let fits : home.place + 512 ≤ cur.text.length = at_some (λ (h : Home). h.place + 512 ≤ cur.text.length) c.in_ok-home.field-0 home c.in-Some.is c.in_ok-home.ensures.placed in
    record {
      reads = reads_both s0 s1 s2 inv.reads reads;
      cursor = c.next.ensures.cursor;
      text = c.next.ensures.text ∙ inv.text;
      few = omega (arith, c.next.ensures.sectors, inv.few);
      placed = still_placed t.length old new home inv.placed (omega (arith, fits, ap (λ (x : Text). x.length) inv.text)) put;
      whole = c.in_ok-add.ensures.whole;
      value = λ tells volume homes a.
          let i = inv.value tells volume homes a in
          let n : words cur.text (content s1) ≡ w = ap (λ (x : Text). words x (content s1)) inv.text ∙ same_words t s0 s1 inv.reads in
          let given = given_next volume w (words cur.text (content s1)) cur c.next.new.self i.rest c.in_ok-home.field-0 home n c.in-Some.is (c.in_ok-home.ensures.gives (tells_then s0 s1 inv.reads tells)) i.pending in
          indexed_step volume w cur c.next.new.self homes old new i home given put;
    }

pub returns-clause-shows : goal.returns-clause-shows
returns-clause-shows g c tells dialect is =
    let s0 = g.D.SectorDisk.state c.args.disk.now in
    let s1 = g.D.SectorDisk.state c.loop-runs.disk in
    let inv = c.loop-runs.invariant in
    let t = c.text_of-text.result in
    let plan = c.args.plan.now in
    let c0 = content s0 in
    let j = journal_of plan in
    let w = words t c0 in
    let cur = c.loop-runs.homes in
    let same = c.text_of-text.ensures.is in
    let volume = volume_of plan.place.info_sector j c0 in
    let homes = homes_of j c0 in
    let a = homes_of_plan c0 plan t s0.sectors is same (length-content s0 (g.met.D.SectorDisk.well_formed c.args.disk.now) tells) in
    let i = inv.value tells volume homes a in
    let place : ℕ → Option ℕ = place_in_both c.loop-runs.index c.loop-runs.runs.items in
    let n : words cur.text (content s1) ≡ w = ap (λ (x : Text). words x (content s1)) inv.text ∙ same_words t s0 s1 inv.reads in
    let none = given_none volume w (words cur.text (content s1)) cur c.next.new.self i.rest c.in_ok-home.field-0 n c.in_default.is (c.in_ok-home.ensures.gives (tells_then s0 s1 inv.reads tells)) i.pending in
    shown_is w c0 homes (place_in_runs c.put_runs.new.self) (λ at. c.in_ok-put_runs.ensures at ∙ indexed_end volume w cur homes place i none at)
    ∙ ap (λ (b : List ℕ). with_homes b homes c0) (words_of_plan c0 plan t same)

pub add-requires-clause-sector : goal.add-requires-clause-sector
add-requires-clause-sector g c =
    let inside = at_some (λ (h : Home). h.sector < c.loop-runs.homes.sectors) c.in_ok-home.field-0 c.in-Some.home c.in-Some.is c.in_ok-home.ensures.on_disk in
    omega (arith, inside, c.loop-runs.invariant.few)

pub invariant_of-result-clause-placed : goal.invariant_of-result-clause-placed
invariant_of-result-clause-placed g c at place is =
    c.loop-runs.invariant.placed at place (sym (c.in_ok-put_runs.ensures at) ∙ is)
