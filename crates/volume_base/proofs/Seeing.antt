-- Reads of a space, one after another, and what they leave of a tree.
use Rattle.std.proofs.Common.{◌≡◌, ◌⊎◌, ◌↔◌, ◌≤◌, ℕ, IsTrue, refl, sym, ◌∙◌, ap, arith, inl, inr, subst, ⊎_elim}
use Rattle.std.specs.Prelude.{Bool, Result, Ok, Err, IfOk, IsErrOf}
use Rattle.hx_bytes.specs.declared.faults.Trouble.{Trouble}
use Rattle.hx_bytes.specs.declared.faults.Trouble.TheVariants.{Disk, Memory}
use Rattle.sector_disk.specs.Lists.{Content}
use Rattle.sector_disk.specs.Cause.{Rose}
use Rattle.sector_disk.specs.Clock.{TimePasses}
use Rattle.sector_disk.specs.Space.{Space, SameSpace, SameSectors, SameRoom, LeavesDurable}
use Rattle.sector_disk.proofs.Passing.{none_passes, both_pass}
use Rattle.btree_edit.specs.Causes.{HasTroubleCause}
use Rattle.btree_file.specs.Frame.{ReadsSpace, SameFile}
use Rattle.sector_disk.proofs.SpaceLaws.{space_none, space_both, iff_none, iff_both, leaves_as_before}
use Rattle.btree_file.specs.declared.tree.TreeFile.{TreeFile}
use Rattle.volume_base.specs.Service.{KeepsFile, KeepsTree}
use Rattle.volume_base.specs.Touching.{Looks}
use Rattle.volume_base.specs.declared.volume.Tree.{Tree}

pub looks_reads : (these : ℕ → Type 0) (a b : Space) → ReadsSpace a b → Looks these a b
looks_reads these a b r = record {
  same = r.same;
  content = λ tells. (r.sectors tells).content;
  durable = λ tells. (r.sectors tells).durable;
  spilled = λ tells. (r.sectors tells).spilled;
  live = λ tells s l. inl (((r.sectors tells).live s).0 l);
  still_live = λ tells s l. ((r.sectors tells).live s).1 l;
  closed = λ tells. (r.sectors tells).closed;
  still_put = λ s p. r.room.put s ∙ p;
  spare = r.room.spare;
  faults = r.faults;
  time = r.time;
}

-- the same of a read whose clauses stand by themselves
pub looks_loads : (these : ℕ → Type 0) (a b : Space) → (IsTrue a.tells → SameSectors a b) → (IsTrue a.tells → TimePasses a.clock b.clock (LeavesDurable b)) → SameRoom a b → SameSpace a b → a.faults ≤ b.faults → Looks these a b
looks_loads these a b sectors time room same faults = looks_reads these a b (record { sectors = sectors; time = time; room = room; same = same; faults = faults })

pub looks_none : (these : ℕ → Type 0) (a : Space) → Looks these a a
looks_none these a = record {
  same = space_none a;
  content = λ tells. refl;
  durable = λ tells. refl;
  spilled = λ tells s. iff_none (a.spilled s);
  live = λ tells s l. inl l;
  still_live = λ tells s l. l;
  closed = λ tells s. iff_none (a.closed s);
  still_put = λ s p. p;
  spare = refl;
  faults = omega arith;
  time = λ tells. none_passes a.clock (LeavesDurable a);
}

pub looks_both : (these : ℕ → Type 0) (a b c : Space) → Looks these a b → Looks these b c → Looks these a c
looks_both these a b c p q =
    let told : IsTrue a.tells → IsTrue b.tells = λ tells. p.same.tells ∙ tells in
    record {
      same = space_both a b c p.same q.same;
      content = λ tells. q.content (told tells) ∙ p.content tells;
      durable = λ tells. q.durable (told tells) ∙ p.durable tells;
      spilled = λ tells s. iff_both (a.spilled s) (b.spilled s) (c.spilled s) (p.spilled tells s) (q.spilled (told tells) s);
      live = λ tells s l. ⊎_elim (λ m. p.live tells s m) (λ here. inr here) (q.live (told tells) s l);
      still_live = λ tells s l. q.still_live (told tells) s (p.still_live tells s l);
      closed = λ tells s. iff_both (a.closed s) (b.closed s) (c.closed s) (p.closed tells s) (q.closed (told tells) s);
      still_put = λ s l. q.still_put s (p.still_put s l);
      spare = q.spare ∙ p.spare;
      faults = omega (arith, p.faults, q.faults);
      time = λ tells. both_pass a.clock b.clock c.clock (LeavesDurable b) (LeavesDurable c) (LeavesDurable c) (p.time tells) (q.time (told tells))
          (λ image told_bytes l. leaves_as_before b c image told_bytes (q.durable (told tells)) (q.spilled (told tells)) (q.closed (told tells)) q.same.told l) (λ image told_bytes l. l);
    }

pub looks_wider : (these those : ℕ → Type 0) (a b : Space) → (IsTrue a.tells → (s : ℕ) → these s → those s) → Looks these a b → Looks those a b
looks_wider these those a b wider p = record {
  same = p.same;
  content = p.content;
  durable = p.durable;
  spilled = p.spilled;
  live = λ tells s l. ⊎_elim (λ old. inl old) (λ here. inr (wider tells s here)) (p.live tells s l);
  still_live = p.still_live;
  closed = p.closed;
  still_put = p.still_put;
  spare = p.spare;
  faults = p.faults;
  time = p.time;
}

pub file_none : (tells : Bool) (a : TreeFile) → KeepsFile tells a a
file_none tells a = record { file = record { fork = refl; per_block = refl; map = refl; node_size = refl; total = refl }; shape = refl; header = λ t. refl }

pub file_both : (tells : Bool) (a b c : TreeFile) → KeepsFile tells a b → KeepsFile tells b c → KeepsFile tells a c
file_both tells a b c p q = record {
  file = record { fork = q.file.fork ∙ p.file.fork; per_block = q.file.per_block ∙ p.file.per_block; map = q.file.map ∙ p.file.map; node_size = q.file.node_size ∙ p.file.node_size; total = q.file.total ∙ p.file.total };
  shape = q.shape ∙ p.shape;
  header = λ t. q.header t ∙ p.header t;
}

pub keeps_none : (tells : Bool) (a : Tree) → KeepsTree tells a a
keeps_none tells a = record { file = file_none tells a.file; desk = λ d. d }

pub keeps_both : (tells : Bool) (a b c : Tree) → KeepsTree tells a b → KeepsTree tells b c → KeepsTree tells a c
keeps_both tells a b c p q = record { file = file_both tells a.file b.file c.file p.file q.file; desk = λ d. q.desk (p.desk d) }

-- causes, by the two answers of a call that fails
pub cause_of : {A : Type 0} (before now : ℕ) (result : Result A Trouble) → before ≤ now → (IsErrOf result Disk → Rose before now) → HasTroubleCause before now result
cause_of before now (Ok a) later disk = record { later = later; failed = tt }
cause_of before now (Err Disk) later disk = record { later = later; failed = disk refl }
cause_of before now (Err Memory) later disk = record { later = later; failed = tt }

cause_before : {T U : Type 0} (t : Trouble) (before mid now : ℕ) → before ≤ mid → HasTroubleCause {T = T} mid now (Err t) → HasTroubleCause {T = U} before now (Err t)
cause_before Disk before mid now earlier cause = record { later = omega (arith, earlier, cause.later); failed = omega (arith, earlier, cause.failed) }
cause_before Memory before mid now earlier cause = record { later = omega (arith, earlier, cause.later); failed = tt }

-- the cause of a call is that of what it ends with, where what came before only read
pub cause_since : {T : Type 0} (before mid now : ℕ) (result : Result T Trouble) → before ≤ mid → HasTroubleCause mid now result → HasTroubleCause before now result
cause_since before mid now (Ok answer) earlier cause = record { later = omega (arith, earlier, cause.later); failed = tt }
cause_since {T} before mid now (Err trouble) earlier cause = cause_before {T = T} {U = T} trouble before mid now earlier cause

-- the cause of a call is that of what it hands on, where its calls before have answered
pub cause_on : {T U : Type 0} (t y : Trouble) (before mid now : ℕ) (q : Result U Trouble) → q ≡ Err y → y ≡ t → before ≤ mid → HasTroubleCause {T = T} mid now (Err t) → HasTroubleCause before now q
cause_on {T} {U} t y before mid now q given same earlier cause =
    subst (λ (r : Result U Trouble). HasTroubleCause before now r) (sym (given ∙ ap Err same)) (cause_before {T = T} {U = U} t before mid now earlier cause)

-- what a call's two answers say together, where each is said of its value
pub if_both : {A E : Type 0} (P Q : A → Type 0) (result : Result A E) → IfOk result P → IfOk result Q → IfOk result (λ a. P a × Q a)
if_both P Q (Ok a) p q = (p, q)
if_both P Q (Err e) p q = p

pub if_so : {A E : Type 0} (P Q : A → Type 0) (result : Result A E) → ((a : A) → P a → Q a) → IfOk result P → IfOk result Q
if_so P Q (Ok a) step p = step a p
if_so P Q (Err e) step p = p
