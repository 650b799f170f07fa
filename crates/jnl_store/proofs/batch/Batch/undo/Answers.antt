use Rattle.std.proofs.Common.{◌≡◌, ◌≤◌, ◌∙◌, ℕ, List, [], true, false, ap, arith, length, subst, sym, take}
use Rattle.std.proofs.lemmas.Bool.{true≢false}
use Rattle.jnl_store.specs.Batch.{AreOnce, Staged, names, restored, restored_front}
use Rattle.jnl_store.specs.Table.{Tabled}
use Rattle.jnl_store.specs.declared.puts.Put.{Put}
use Rattle.jnl_store.proofs.Saved.{front_length, length_restored, once_restored, restored_all, take_front}
use Rattle.jnl_store.proofs.batch.Batch.undo.Goals as goal

pub copy_front-requires-clause-few : goal.copy_front-requires-clause-few
copy_front-requires-clause-few c =
    let i = c.self.inside in
    omega (arith, c.self.invariant.kept_some, ap (λ (l : List Put). length l) c.restore.ensures.items, front_length i.puts.items i.saved.items i.kept)

pub invariant_of-self : goal.invariant_of-self
invariant_of-self c =
    let i = c.self.inside in
    let inv = c.self.invariant in
    let all_is : c.copy.new.self.items ≡ restored i.puts.items i.saved.items i.kept =
    c.copy.ensures.items ∙ c.copy_front.ensures.items ∙ ap (λ (l : List Put). take i.kept l) c.restore.ensures.items ∙ take_front i.puts.items i.saved.items i.kept in
    let long : length c.copy.new.self.items ≡ i.kept = ap (λ (l : List Put). length l) all_is ∙ length_restored i.puts.items i.saved.items i.kept inv.kept_some in
    record {
      some = omega (arith, long, inv.kept_some, inv.some);
      kept_some = omega (arith, long);
      of_kept = λ s named. absurd (true≢false (sym named ∙ ap (λ (t : Tabled). names t.items s) c.clear.ensures));
      enough = omega (arith, inv.enough, c.copy.ensures.memory, c.restore.ensures.memory);
      enough_saved = omega (arith, inv.enough_saved, ap (λ (t : Tabled). t.memory) c.clear.ensures, c.copy_front.ensures.memory);
      enough_live = inv.enough_live;
    }

pub returns-clause-dropped : goal.returns-clause-dropped
returns-clause-dropped c =
    let i = c.self.inside in
    let all_is : c.copy.new.self.items ≡ restored i.puts.items i.saved.items i.kept =
    c.copy.ensures.items ∙ c.copy_front.ensures.items ∙ ap (λ (l : List Put). take i.kept l) c.restore.ensures.items ∙ take_front i.puts.items i.saved.items i.kept in
    let long : i.kept ≡ length c.copy.new.self.items = sym (ap (λ (l : List Put). length l) all_is ∙ length_restored i.puts.items i.saved.items i.kept c.self.invariant.kept_some) in
    let kept_is : restored c.copy.new.self.items c.clear.new.self.items i.kept ≡ restored i.puts.items i.saved.items i.kept =
    ap (λ (t : Tabled). restored c.copy.new.self.items t.items i.kept) c.clear.ensures ∙ restored_all c.copy.new.self.items i.kept long ∙ all_is in
    (λ j. let it : Staged = record { all = all_is j; kept = kept_is j; live = i.live.homes; room = i.room; most = i.most } in it)
    ∙ ap (λ (s : Staged). let it : Staged = record s { all = s.kept } in it) c.self.view_is

pub returns-clause-few : goal.returns-clause-few
returns-clause-few c =
    let i = c.self.inside in
    omega (
      arith,
      length_restored i.puts.items i.saved.items i.kept c.self.invariant.kept_some,
      c.self.invariant.kept_some,
      ap (λ (s : Staged). length s.kept) c.self.view_is,
      ap (λ (s : Staged). length s.all) c.self.view_is,
    )

pub returns-clause-once : goal.returns-clause-once
returns-clause-once c =
    let i = c.self.inside in
    let once : AreOnce i.puts.items = subst AreOnce c.as_slice-once.ensures.items c.as_slice-once.ensures.once in (
      subst AreOnce (ap (λ (s : Staged). s.all) c.self.view_is) once,
      subst AreOnce (ap (λ (s : Staged). s.kept) c.self.view_is) (once_restored i.puts.items i.saved.items i.kept once),
    )
