-- Causes of faults over calls in a row.
use Rattle.std.proofs.Common.{◌≡◌, ◌≢◌, ◌⊎◌, ◌≤◌, ℕ, Result, Ok, Err, inl, inr, ⊎_elim, refl, sym, ◌∙◌, ap, subst, arith}
use Rattle.std.specs.Prelude.{IsErrOf, OnErr, OnOk}
use Rattle.std.proofs.lemmas.Bool.{cases_eq}
use Rattle.hx_bytes.specs.declared.faults.Trouble.{Trouble}
use Rattle.hx_bytes.specs.declared.faults.Trouble.TheVariants as trouble
use Rattle.line_source.specs.Cause.{IsCause}
use Rattle.line_source.specs.declared.input.InputFault.{InputFault}
use Rattle.line_source.specs.declared.input.InputFault.TheVariants as input
use Rattle.sector_disk.specs.Cause.{Rose}
use Rattle.sector_disk.specs.Disk.{State}
use Rattle.sector_disk.specs.Space.{Space}
use Rattle.jnl_store.specs.Store.{faults_of}
use Rattle.jnl_store.specs.declared.store.Store.{Store}
use Rattle.jnl_store.specs.declared.store.StoreFault.{StoreFault}
use Rattle.jnl_store.specs.declared.store.StoreFault.TheVariants as fault
use Rattle.hfs_serving.specs.Faults.{CountsFaults, Faults, RigFaults, StopFaults}
use Rattle.hfs_serving.specs.Steps.{stop_of, stop_of_input}
use Rattle.hfs_serving.specs.declared.telling.Stop.{Stop}
use Rattle.hfs_serving.specs.declared.telling.Stop.TheVariants as stop

pub rose_later : (before mid now : ℕ) → before ≤ mid → Rose mid now → Rose before now
rose_later before mid now later rose = omega (arith, later, rose)

pub rose_still : (before mid now : ℕ) → Rose before mid → mid ≤ now → Rose before now
rose_still before mid now rose later = omega (arith, rose, later)

-- the fault that is answered
pub the_fault : {T E : Type 0} (r : Result T E) (e fault : E) → r ≡ Err e → IsErrOf r fault → e ≡ fault
the_fault {T} {E} r e fault given is = by (sym given ∙ is)
  where
    by : ◌≡◌ {A = Result T E} (Err e) (Err fault) → e ≡ fault
    by same = cc same

pub counts_none : (failed : ℕ) (s : Space) → CountsFaults failed s failed s
counts_none failed s = record { later = omega arith; counted = inl refl; sink = omega arith }

module _ {a b c : ℕ} {x y z : Space} (first : CountsFaults a x b y) where
  pub counts_both : CountsFaults b y c z → CountsFaults a x c z
  counts_both second = record {
    later = omega (arith, first.later, second.later);
    counted =
        ⊎_elim (λ same. ⊎_elim (λ was. inl (same ∙ was)) (λ rose. inr (rose_still x.faults y.faults z.faults rose second.later)) first.counted)
        (λ rose. inr (rose_later x.faults y.faults z.faults first.later rose)) second.counted;
    sink = omega (arith, first.sink, second.sink);
  }

  -- a fault of the disk behind calls that counted none, or one
  disk_behind : CountsFaults b y c z → (b ≡ 0 → Rose y.faults z.faults) → a ≡ 0 → Rose x.faults z.faults
  disk_behind second rises none =
      ⊎_elim (λ was. rose_later x.faults y.faults z.faults first.later (rises (was ∙ none))) (λ rose. rose_still x.faults y.faults z.faults rose second.later) first.counted

  -- the last call's answer is the answer
  pub behind : {T : Type 0} (r : Result T Trouble) → Faults b y c z r → Faults a x c z r
  behind r faults = record { counts = counts_both faults.counts; disk = λ is. disk_behind faults.counts (faults.disk is) }

  -- its fault is handed on
  pub handed : {T U : Type 0} (e f : Trouble) (r : Result U Trouble) → Faults {T = T} b y c z (Err e) → r ≡ Err f → f ≡ e → Faults a x c z r
  handed e f r faults given same = record {
    counts = counts_both faults.counts;
    disk = λ is. disk_behind faults.counts (faults.disk (ap Err (sym same ∙ the_fault r f trouble.Disk given is)));
  }

  pub handed_stop : {T U : Type 0} (source : Type 0) (e : Trouble) (f : Stop) (r : Result U Stop) → Faults {T = T} b y c z (Err e) → r ≡ Err f → f ≡ stop_of e → StopFaults a x c z source r
  handed_stop {T} source e f r faults given same = record {
    counts = counts_both faults.counts;
    disk = λ is. disk_behind faults.counts (faults.disk (ap Err (is_disk e (sym same ∙ the_fault r f stop.Disk given is))));
    sink = λ is. absurd (no_sink e (sym same ∙ the_fault r f stop.Sink given is));
    source = λ is. absurd (no_source e (sym same ∙ the_fault r f stop.Source given is));
  }
    where
      is_disk : (t : Trouble) → stop_of t ≡ stop.Disk → t ≡ trouble.Disk
      is_disk trouble.Disk is = refl
      is_disk trouble.Memory is = absurd (cc is)

      no_sink : (t : Trouble) → stop_of t ≡ stop.Sink → ⊥
      no_sink trouble.Disk is = absurd (cc is)
      no_sink trouble.Memory is = absurd (cc is)

      no_source : (t : Trouble) → stop_of t ≡ stop.Source → ⊥
      no_source trouble.Disk is = absurd (cc is)
      no_source trouble.Memory is = absurd (cc is)

  pub behind_stop : {T : Type 0} (narrow wide : Type 0) (r : Result T Stop) → (narrow → wide) → StopFaults b y c z narrow r → StopFaults a x c z wide r
  behind_stop narrow wide r widens faults = record {
    counts = counts_both faults.counts;
    disk = λ is. disk_behind faults.counts (faults.disk is);
    sink = λ is. rose_later x.sink_faults y.sink_faults z.sink_faults first.sink (faults.sink is);
    source = λ is. widens (faults.source is);
  }

  pub handed_on : {T U : Type 0} (narrow wide : Type 0) (e f : Stop) (r : Result U Stop) → (narrow → wide) → StopFaults {T = T} b y c z narrow (Err e) → r ≡ Err f → f ≡ e → StopFaults a x c z wide r
  handed_on {T} narrow wide e f r widens faults given same =
      let at : (other : Stop) → IsErrOf r other → IsErrOf {T = T} {E = Stop} (Err e) other = λ other is. ap Err (sym same ∙ the_fault r f other given is) in
      record {
        counts = counts_both faults.counts;
        disk = λ is. disk_behind faults.counts (faults.disk (at stop.Disk is));
        sink = λ is. rose_later x.sink_faults y.sink_faults z.sink_faults first.sink (faults.sink (at stop.Sink is));
        source = λ is. widens (faults.source (at stop.Source is));
      }

  -- replies weren't told
  pub sink_stop : {T : Type 0} → CountsFaults b y c z → Rose y.sink_faults z.sink_faults → StopFaults {T = T} a x c z ⊥ (Err stop.Sink)
  sink_stop second rose = record {
    counts = counts_both second;
    disk = λ is. absurd (cc is);
    sink = λ is. rose_later x.sink_faults y.sink_faults z.sink_faults first.sink rose;
    source = λ is. absurd (cc is);
  }

module _ {a b : ℕ} {x y : Space} (counts : CountsFaults a x b y) where
  pub fine : {T : Type 0} (v : T) → Faults a x b y (Ok v)
  fine v = record { counts = counts; disk = λ is. absurd (cc is) }

  pub fine_stop : {T : Type 0} (source : Type 0) (v : T) → StopFaults a x b y source (Ok v)
  fine_stop source v = record { counts = counts; disk = λ is. absurd (cc is); sink = λ is. absurd (cc is); source = λ is. absurd (cc is) }

  -- neither device failed
  pub other_stop : {T : Type 0} (source : Type 0) (f : Stop) (r : Result T Stop) → r ≡ Err f → (f ≡ stop.Disk → ⊥) → (f ≡ stop.Sink → ⊥) → (f ≡ stop.Source → ⊥) → StopFaults a x b y source r
  other_stop source f r given no_disk no_sink no_source = record {
    counts = counts;
    disk = λ is. absurd (no_disk (the_fault r f stop.Disk given is));
    sink = λ is. absurd (no_sink (the_fault r f stop.Sink given is));
    source = λ is. absurd (no_source (the_fault r f stop.Source given is));
  }

  -- no line came
  pub input_stop : {T U : Type 0} (first mid now : ℕ) (e : InputFault) (f : Stop) (r : Result U Stop) → first ≤ mid → IsCause {T = T} input.Source mid now (Err e) → r ≡ Err f → f ≡ stop_of_input e → StopFaults a x b y (Rose first now) r
  input_stop {T} first mid now e f r later cause given same = record {
    counts = counts;
    disk = λ is. absurd (no_disk e (sym same ∙ the_fault r f stop.Disk given is));
    sink = λ is. absurd (no_sink e (sym same ∙ the_fault r f stop.Sink given is));
    source = λ is. rose_later first mid now later (cause.rose (ap Err (is_source e (sym same ∙ the_fault r f stop.Source given is))));
  }
    where
      is_source : (t : InputFault) → stop_of_input t ≡ stop.Source → t ≡ input.Source
      is_source input.Source is = refl
      is_source input.Memory is = absurd (cc is)

      no_disk : (t : InputFault) → stop_of_input t ≡ stop.Disk → ⊥
      no_disk input.Source is = absurd (cc is)
      no_disk input.Memory is = absurd (cc is)

      no_sink : (t : InputFault) → stop_of_input t ≡ stop.Sink → ⊥
      no_sink input.Source is = absurd (cc is)
      no_sink input.Memory is = absurd (cc is)

module _ {a b : ℕ} {x y : Space} (counts : CountsFaults a x b y) where
  -- lines weren't taken
  pub took_stop : {T U : Type 0} (first mid now : ℕ) (e f : Stop) (r : Result U Stop) → first ≤ mid → IsCause {T = T} stop.Source mid now (Err e) → (IsErrOf {T = T} {E = Stop} (Err e) stop.Disk → ⊥) → (IsErrOf {T = T} {E = Stop} (Err e) stop.Sink → ⊥) → r ≡ Err f → f ≡ e
      → StopFaults a x b y (Rose first now) r
  took_stop {T} first mid now e f r later cause no_disk no_sink given same =
      let at : (other : Stop) → IsErrOf r other → IsErrOf {T = T} {E = Stop} (Err e) other = λ other is. ap Err (sym same ∙ the_fault r f other given is) in
      record {
        counts = counts;
        disk = λ is. absurd (no_disk (at stop.Disk is));
        sink = λ is. absurd (no_sink (at stop.Sink is));
        source = λ is. rose_later first mid now later (cause.rose (at stop.Source is));
      }

-- one call behind another, which answers a fault where its count rose
pub faults_behind : {T : Type 0} (failed mid_failed new_failed : ℕ) (old mid new : Space) (r : Result T Trouble) → CountsFaults failed old mid_failed mid → CountsFaults mid_failed mid new_failed new → (mid_failed ≡ 0 → Rose mid.faults new.faults) → Faults failed old new_failed new r
faults_behind failed mid_failed new_failed old mid new r first second cause = record {
  counts = counts_both first second;
  disk = λ is none. ⊎_elim (λ same. rose_later old.faults mid.faults new.faults first.later (cause (same ∙ none))) (λ rose. rose_still old.faults mid.faults new.faults rose second.later) first.counted;
}

-- ---- a store's commit

pub commit_counted : {A : Type 0} (X Y Z : Type 0) (r : Result A StoreFault) (store new : Store) (before now : ℕ) → OnOk r (X × Y × Z × (faults_of new ≡ faults_of store)) → (IsErrOf r fault.Disk → Rose before now) → (faults_of store ≢ 0 → new ≡ store) → (faults_of store ≡ 0 → (n : ℕ) → r ≢ Err (fault.Failed n))
    → (faults_of new ≡ faults_of store) ⊎ Rose before now
commit_counted X Y Z (Ok x) store new before now ok disk failed not_failed = inl ok.3
commit_counted X Y Z (Err fault.Disk) store new before now ok disk failed not_failed = inr (disk refl)
commit_counted X Y Z (Err (fault.Failed n)) store new before now ok disk failed not_failed =
    ⊎_elim (λ none. absurd (not_failed none n refl)) (λ other. inl (ap faults_of (failed other))) (cases_eq (faults_of store) 0)

pub rest_counted : {A : Type 0} (X : Type 0) (r : Result A StoreFault) (store new : Store) (before now : ℕ) → OnOk r (X × (faults_of new ≡ faults_of store)) → (IsErrOf r fault.Disk → Rose before now) → (faults_of store ≢ 0 → new ≡ store) → (faults_of store ≡ 0 → (n : ℕ) → r ≢ Err (fault.Failed n))
    → (faults_of new ≡ faults_of store) ⊎ Rose before now
rest_counted X (Ok x) store new before now ok disk failed not_failed = inl ok.1
rest_counted X (Err fault.Disk) store new before now ok disk failed not_failed = inr (disk refl)
rest_counted X (Err (fault.Failed n)) store new before now ok disk failed not_failed =
    ⊎_elim (λ none. absurd (not_failed none n refl)) (λ other. inl (ap faults_of (failed other))) (cases_eq (faults_of store) 0)

pub commit_cause : {A : Type 0} (r : Result A StoreFault) (store : Store) (before now : ℕ) → (IsErrOf r fault.Disk → Rose before now) → (faults_of store ≡ 0 → (n : ℕ) → r ≢ Err (fault.Failed n)) → OnErr r (faults_of store ≡ 0 → Rose before now)
commit_cause (Ok x) store before now disk not_failed = tt
commit_cause (Err fault.Disk) store before now disk not_failed = λ none. disk refl
commit_cause (Err (fault.Failed n)) store before now disk not_failed = λ none. absurd (not_failed none n refl)

-- ---- over a rig

-- of a store that had counted no fault
pub rig_from : {T : Type 0} {failed failed_new : ℕ} {source : Type 0} {r : Result T Stop} (a b : State) (x y : Space) → x.faults ≡ a.faults → x.sink_faults ≡ a.sink_faults → y.faults ≡ b.faults → y.sink_faults ≡ b.sink_faults → failed ≡ 0
    → StopFaults failed x failed_new y source r → RigFaults a b source r
rig_from a b x y disk_a sink_a disk_b sink_b none faults = record {
  later = omega (arith, faults.counts.later, disk_a, disk_b);
  sink_later = omega (arith, faults.counts.sink, sink_a, sink_b);
  disk = λ is. subst (λ n. Rose n b.faults) disk_a (subst (λ n. Rose x.faults n) disk_b (faults.disk is none));
  sink = λ is. subst (λ n. Rose n b.sink_faults) sink_a (subst (λ n. Rose x.sink_faults n) sink_b (faults.sink is));
  source = faults.source;
}

module _ (a b c : State) (later : a.faults ≤ b.faults) (sink_later : a.sink_faults ≤ b.sink_faults) where
  pub rig_fine : {T : Type 0} (source : Type 0) (v : T) → RigFaults a b source (Ok v)
  rig_fine source v = record { later = later; sink_later = sink_later; disk = λ is. absurd (cc is); sink = λ is. absurd (cc is); source = λ is. absurd (cc is) }

  -- memory was missing
  pub rig_memory : {T : Type 0} (source : Type 0) (f : Stop) (r : Result T Stop) → r ≡ Err f → f ≡ stop.Memory → RigFaults a b source r
  rig_memory source f r given same =
      let no : (other : Stop) → IsErrOf r other → stop.Memory ≡ other = λ other is. sym same ∙ the_fault r f other given is in
      record {
        later = later;
        sink_later = sink_later;
        disk = λ is. absurd (cc (no stop.Disk is));
        sink = λ is. absurd (cc (no stop.Sink is));
        source = λ is. absurd (cc (no stop.Source is));
      }

  -- the disk failed, or memory was missing
  pub rig_trouble : {T : Type 0} (source : Type 0) (e : Trouble) (f : Stop) (r : Result T Stop) → (e ≡ trouble.Disk → Rose a.faults b.faults) → r ≡ Err f → f ≡ stop_of e → RigFaults a b source r
  rig_trouble source trouble.Memory f r rose given same = rig_memory source f r given same
  rig_trouble source trouble.Disk f r rose given same =
      let no : (other : Stop) → IsErrOf r other → stop.Disk ≡ other = λ other is. sym same ∙ the_fault r f other given is in
      record { later = later; sink_later = sink_later; disk = λ is. rose refl; sink = λ is. absurd (cc (no stop.Sink is)); source = λ is. absurd (cc (no stop.Source is)) }

  pub rig_behind : {T : Type 0} (source : Type 0) (r : Result T Stop) → RigFaults b c source r → RigFaults a c source r
  rig_behind source r faults = record {
    later = omega (arith, later, faults.later);
    sink_later = omega (arith, sink_later, faults.sink_later);
    disk = λ is. rose_later a.faults b.faults c.faults later (faults.disk is);
    sink = λ is. rose_later a.sink_faults b.sink_faults c.sink_faults sink_later (faults.sink is);
    source = faults.source;
  }

  pub rig_handed : {T U : Type 0} (source : Type 0) (e f : Stop) (r : Result U Stop) → RigFaults {T = T} b c source (Err e) → r ≡ Err f → f ≡ e → RigFaults a c source r
  rig_handed {T} source e f r faults given same =
      let at : (other : Stop) → IsErrOf r other → IsErrOf {T = T} {E = Stop} (Err e) other = λ other is. ap Err (sym same ∙ the_fault r f other given is) in
      record {
        later = omega (arith, later, faults.later);
        sink_later = omega (arith, sink_later, faults.sink_later);
        disk = λ is. rose_later a.faults b.faults c.faults later (faults.disk (at stop.Disk is));
        sink = λ is. rose_later a.sink_faults b.sink_faults c.sink_faults sink_later (faults.sink (at stop.Sink is));
        source = λ is. faults.source (at stop.Source is);
      }
