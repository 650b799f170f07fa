-- Files with several names, read pair by pair.
use Rattle.std.proofs.Common.{◌≡◌, ◌≢◌, ◌<◌, ◌≤◌, ◌^◌, ℕ, ◌+◌, true, ◌&&◌, nat_lt, List, [], ◌∷◌, ◌++◌, length, take, refl, sym, ◌∙◌, ap, subst, arith, ⊎_elim}
use Rattle.std.specs.Prelude.{Contains, Option, Some, None, is_some}
use Rattle.std.specs.Str.{bytes_eq}
use Rattle.std.proofs.lemmas.Bool.{true≢false, eqb-true, eq-eqb, and_parts}
use Rattle.std.proofs.lemmas.List.{take_more, take_all, map-append}
use Rattle.std.proofs.lemmas.List.Elements.{Contains-append_left, Contains-append_right, Contains-append_cases}
use Rattle.std.proofs.lemmas.Slice.Eq.{bytes_eq-Decides}
use Rattle.btree_node.specs.Levels.{Pair}
use Rattle.btree_node.specs.Keys.{catalog_parent, catalog_units}
use Rattle.cat_records.specs.Records.{catalog_of}
use Rattle.cat_records.specs.declared.record.CatRecord.{CatRecord}
use Rattle.cat_records.specs.declared.record.CatRecord.TheVariants.{Folder, File, Thread}
use Rattle.hfs_volume.specs.Records.{Placed, placed_of, placed_in, is_file, id_in, special_of}
use Rattle.hfs_volume.specs.Links.{is_in, is_shared, node_name}
use Rattle.hfs_volume.proofs.Members.{in_one, at_front}
use Rattle.fsck_core.specs.Names.{pair_at, shared_found, shared_some, IsSharedAs, AreShared}
use Rattle.fsck_core.specs.declared.shared.SharedFile.{SharedFile}
use Rattle.fsck_core.proofs.RowLaws.{true_below, below_true}

-- what a file with several names is
pub shared_parts : (private reference : ℕ) (placed : Placed) → is_shared (Some private) reference placed ≡ true → (placed.parent ≡ private) × (is_file placed.value ≡ true) × (placed.name ≡ node_name reference) × (reference < 2 ^ 32)
shared_parts private reference placed is =
    let a = and_parts (is_in (Some private) placed && is_file placed.value && bytes_eq placed.name (node_name reference)) (nat_lt reference (2 ^ 32)) is in
    let b = and_parts (is_in (Some private) placed && is_file placed.value) (bytes_eq placed.name (node_name reference)) a.0 in
    let d = and_parts (is_in (Some private) placed) (is_file placed.value) b.0 in
    (eqb-true placed.parent private d.0, d.1, (bytes_eq-Decides placed.name (node_name reference)).0 b.1, below_true reference (2 ^ 32) a.1)

shared_from : (private reference : ℕ) (placed : Placed) → placed.parent ≡ private → is_file placed.value ≡ true → placed.name ≡ node_name reference → reference < 2 ^ 32 → is_shared (Some private) reference placed ≡ true
shared_from private reference placed parent file name small =
    λ i. (((eq-eqb placed.parent private parent i) && (file i)) && ((bytes_eq-Decides placed.name (node_name reference)).1 name i)) && (true_below reference (2 ^ 32) small i)

pub other_folder : (key value : List ℕ) (private reference : ℕ) → catalog_parent key ≢ private → is_shared (Some private) reference (placed_of (key, value)) ≡ true → ⊥
unfolding placed_of
other_folder key value private reference other is = other (shared_parts private reference (placed_of (key, value)) is).0

pub its_number : (key value : List ℕ) (private reference : ℕ) → is_shared (Some private) reference (placed_of (key, value)) ≡ true → (reference < 2 ^ 32) × (catalog_units key ≡ node_name reference)
unfolding placed_of
its_number key value private reference is = let parts = shared_parts private reference (placed_of (key, value)) is in (parts.3, parts.2)

abbrev file_or : Option SharedFile → SharedFile → SharedFile
file_or None d = d
file_or (Some file) d = file

pub its_shared : (key value : List ℕ) (private reference : ℕ) (rec : CatRecord) (found : Option SharedFile) (file : SharedFile) → catalog_parent key ≡ private → catalog_units key ≡ node_name reference → reference < 2 ^ 32
    → rec ≡ catalog_of value → found ≡ shared_found reference rec → found ≡ Some file → IsSharedAs (Some private) (placed_of (key, value)) file
unfolding placed_of
its_shared key value private reference (Folder folder) found file parent name small read is same = absurd (none_some (sym is ∙ same))
  where
    none_some : None ≡ Some file → ⊥
    none_some no_file = cc
its_shared key value private reference (Thread thread) found file parent name small read is same = absurd (none_some (sym is ∙ same))
  where
    none_some : None ≡ Some file → ⊥
    none_some no_file = cc
its_shared key value private reference (File own) found file parent name small read is same =
    let made : SharedFile = record { reference = reference; id = own.fields.id; links = own.fields.special } in
    let equal : made ≡ file = ap (λ o. file_or o made) (sym is ∙ same) in
    subst (IsSharedAs (Some private) (placed_of (key, value))) equal (record {
      shared = shared_from private reference (placed_of (key, value)) parent (sym (ap is_file read)) name small;
      id = ap id_in read;
      links = ap (λ v. special_of (record { parent = catalog_parent key; name = catalog_units key; value = v })) read;
    })

pub some_shared : (key value : List ℕ) (private reference other : ℕ) (rec : CatRecord) (found : Option SharedFile) → rec ≡ catalog_of value → found ≡ shared_found other rec → is_shared (Some private) reference (placed_of (key, value)) ≡ true → is_some found ≡ true
unfolding placed_of
some_shared key value private reference other rec found read is shared = ap is_some is ∙ at rec (ap is_file read ∙ (shared_parts private reference (placed_of (key, value)) shared).1)
  where
    at : (r : CatRecord) → is_file r ≡ true → is_some (shared_found other r) ≡ true
    at (Folder folder) file = absurd (true≢false (sym file))
    at (File own) file = refl
    at (Thread thread) file = absurd (true≢false (sym file))

-- ---- one pair more

front_more : (pairs : List Pair) (k : ℕ) → k < length pairs → placed_in (take (k + 1) pairs) ≡ placed_in (take k pairs) ++ placed_of (pair_at pairs k) ∷ []
front_more pairs k inside = ap placed_in (take_more pairs k ([], []) inside) ∙ map-append placed_of (take k pairs) (pair_at pairs k ∷ [])

module _ (private : Option ℕ) (pairs : List Pair) (k : ℕ) (old new : List SharedFile) (found : Option SharedFile) (inside : k < length pairs) (was : AreShared private (placed_in (take k pairs)) old)
    (own : (file : SharedFile) → found ≡ Some file → IsSharedAs private (placed_of (pair_at pairs k)) file) (there : (reference : ℕ) → is_shared private reference (placed_of (pair_at pairs k)) ≡ true → is_some found ≡ true)
    (is : new ≡ old ++ shared_some found) where
  abbrev front : List Placed
  front = placed_in (take k pairs)

  abbrev here : Placed
  here = placed_of (pair_at pairs k)

  in_front : (placed : Placed) → Contains front placed → Contains (placed_in (take (k + 1) pairs)) placed
  in_front placed stands = subst (λ (l : List Placed). Contains l placed) (sym (front_more pairs k inside)) (Contains-append_left front (here ∷ []) placed stands)

  is_here : Contains (placed_in (take (k + 1) pairs)) here
  is_here = subst (λ (l : List Placed). Contains l here) (sym (front_more pairs k inside)) (Contains-append_right front (here ∷ []) here (at_front here []))

  found_cases : (o : Option SharedFile) (file : SharedFile) → Contains (shared_some o) file → o ≡ Some file
  found_cases None file stands = absurd (omega (arith, stands.1))
  found_cases (Some other) file stands = ap Some (sym (in_one other file stands))

  found_some : (o : Option SharedFile) → is_some o ≡ true → (file : SharedFile) × (o ≡ Some file) × Contains (shared_some o) file
  found_some None no_file = absurd (true≢false (sym no_file))
  found_some (Some file) yes_file = (file, refl, at_front file [])

  pub shared_more : AreShared private (placed_in (take (k + 1) pairs)) new
  shared_more = record {
    sound = λ file stands. ⊎_elim
        (λ (early : Contains old file). let from = was.sound file early in (from.0, in_front from.0 from.1, from.2))
        (λ (late : Contains (shared_some found) file). (here, is_here, own file (found_cases found file late)))
        (Contains-append_cases old (shared_some found) file (subst (λ (l : List SharedFile). Contains l file) is stands));
    whole = λ placed reference stands shared. ⊎_elim
        (λ (early : Contains front placed).
        let from = was.whole placed reference early shared in
        (from.0, subst (λ (l : List SharedFile). Contains l from.0) (sym is) (Contains-append_left old (shared_some found) from.0 from.1), from.2))
        (λ (late : Contains (here ∷ []) placed).
        let same : placed ≡ here = in_one here placed late in
        let one = found_some found (there reference (subst (λ (p : Placed). is_shared private reference p ≡ true) same shared)) in
        (one.0, subst (λ (l : List SharedFile). Contains l one.0) (sym is) (Contains-append_right old (shared_some found) one.0 one.2), subst (λ (p : Placed). IsSharedAs private p one.0) (sym same) (own one.0 one.1)))
        (Contains-append_cases front (here ∷ []) placed (subst (λ (l : List Placed). Contains l placed) (front_more pairs k inside) stands));
  }

pub shared_begins : (private : Option ℕ) → AreShared private [] []
shared_begins private = record {
  sound = λ file stands. absurd (omega (arith, stands.1));
  whole = λ placed reference stands shared. absurd (omega (arith, stands.1));
}

pub shared_ends : (private : Option ℕ) (pairs : List Pair) (k : ℕ) (files : List SharedFile) → length pairs ≤ k → AreShared private (placed_in (take k pairs)) files → AreShared private (placed_in pairs) files
shared_ends private pairs k files end are = subst (λ (l : List Pair). AreShared private (placed_in l) files) (take_all k pairs end) are
