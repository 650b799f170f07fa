-- What calls that only read leave, one behind another, and at an early end.
use Rattle.std.proofs.Common.{◌≡◌, ◌≤◌, ℕ, IsTrue, refl, sym, ◌∙◌, ap, subst, arith}
use Rattle.std.specs.Prelude.{Result, Ok, Err}
use Rattle.std.specs.List.{Contains}
use Rattle.std.specs.Result.{IsErrAnd}
use Rattle.std.proofs.lemmas.Result.{err_from_is_err_and}
use Rattle.hx_bytes.specs.declared.faults.Trouble.{Trouble}
use Rattle.hx_bytes.specs.declared.faults.Trouble.TheVariants.{Memory}
use Rattle.sector_disk.specs.Space.{Space}
use Rattle.btree_edit.specs.Causes.{HasTroubleCause}
use Rattle.btree_edit.specs.Desk.{IsDeskOf}
use Rattle.btree_edit.specs.declared.desk.Desk.{Desk}
use Rattle.btree_file.specs.Frame.{ReadsSpace}
use Rattle.btree_file.specs.Standing.{numbers_of}
use Rattle.btree_file.specs.State.{sectors_of_tree}
use Rattle.btree_file.specs.declared.tree.TreeFile.{TreeFile}
use Rattle.hfs_volume.specs.Content.{has_attributes}
use Rattle.volume_base.specs.Frame.{Looked}
use Rattle.volume_base.specs.Looking.{IsCatalogOver, IsAttributesOver, ReadsTree, ReadsVolume}
use Rattle.volume_base.specs.Service.{KeepsFile}
use Rattle.volume_base.specs.Standing.{StandsOver, own_sectors}
use Rattle.volume_base.specs.Touching.{Looks}
use Rattle.volume_base.specs.declared.volume.Volume.{Volume}
use Rattle.volume_base.proofs.Extending.{extents_read, read_on}
use Rattle.volume_base.proofs.Framed.{handed, looked_of}
use Rattle.volume_base.proofs.Seeing.{cause_since, keeps_none, looks_none, looks_reads}
use Rattle.volume_base.proofs.Still.{attributes_read, catalog_read, stands_still}

volume_none : (v : Volume) (a : Space) → ReadsVolume v v a a
volume_none v a = record {
  keeps = record {
    header = refl;
    map = refl;
    extents = keeps_none a.tells v.extents;
    catalog = keeps_none a.tells v.catalog;
    attributes = keeps_none a.tells v.attributes;
    private = refl;
    shrunk = refl;
    capacity = refl;
    kept = refl;
    filling = refl;
  };
  looks = looks_none (λ s. Contains (own_sectors v) s) a;
}

module _ {S : Type 0} {space_of : S → Space} {follows : S → S → Type 0} where
  -- nothing was read
  pub looked_none : {T : Type 0} {v : Volume} {a : S} {x : T} → ((s : S) → follows s s) → StandsOver v (space_of a) → Looked space_of follows v v a a (Ok x)
  looked_none {T} {v} {a} {x} none stands = looked_of (none a) (record { later = omega arith; failed = tt }) stands (volume_none v (space_of a))

  -- nothing was read, and memory is wanting
  pub looked_wanting : {T : Type 0} {v : Volume} {a : S} → ((s : S) → follows s s) → StandsOver v (space_of a) → Looked {T = T} space_of follows v v a a (Err Memory)
  looked_wanting {T} {v} {a} none stands = looked_of (none a) (record { later = omega arith; failed = tt }) stands (volume_none v (space_of a))

  -- memory is wanting behind what was read
  pub looked_short : {T U : Type 0} {v w : Volume} {a b : S} {r : Result T Trouble} → Looked space_of follows v w a b r → Looked {T = U} space_of follows v w a b (Err Memory)
  looked_short was = looked_of was.edits.ran.below (record { later = was.edits.ran.cause.later; failed = tt }) was.stands was.reads

  -- another answer is given
  pub looked_again : {T U : Type 0} {v w : Volume} {a b : S} {r : Result T Trouble} {y : U} → Looked space_of follows v w a b r → Looked space_of follows v w a b (Ok y)
  looked_again was = looked_of was.edits.ran.below (record { later = was.edits.ran.cause.later; failed = tt }) was.stands was.reads

  -- the fault is handed on
  pub looked_fault : {T U : Type 0} {v w : Volume} {a b : S} {e : Trouble} {q : Result U Trouble} → IsErrAnd q (λ y. y ≡ e) → Looked {T = T} space_of follows v w a b (Err e) → Looked space_of follows v w a b q
  looked_fault {T} {U} {v} {w} {a} {b} {e} {q} handed_on was =
      let p = err_from_is_err_and q handed_on in
      subst (λ (r : Result U Trouble). Looked space_of follows v w a b r) (sym (p.1 ∙ ap Err p.2))
      (looked_of was.edits.ran.below (handed {T = T} {U = U} e (space_of a).faults (space_of b).faults was.edits.ran.cause) was.stands was.reads)

  -- the catalog alone was read
  pub catalog_looked : {T : Type 0} {v : Volume} {file : TreeFile} {desk : Desk} {a b : S} {r : Result T Trouble} → follows a b → HasTroubleCause (space_of a).faults (space_of b).faults r → StandsOver v (space_of a)
      → ReadsTree v.catalog.file file (space_of a) (space_of b) → IsCatalogOver file desk (space_of b)
      → Looked space_of follows v (record v { catalog = record { file = file; desk = desk } }) a b r
  catalog_looked {T} {v} {file} {desk} {a} {b} {r} below cause stands reads over =
      let all = catalog_read v file desk (space_of a) (space_of b) reads over in
      looked_of below cause (stands_still v (record v { catalog = record { file = file; desk = desk } }) (space_of a) (space_of b) all stands) all

  -- the attributes file alone was read
  pub attributes_looked : {T : Type 0} {v : Volume} {file : TreeFile} {desk : Desk} {a b : S} {r : Result T Trouble} → IsTrue (has_attributes v.header) → follows a b → HasTroubleCause (space_of a).faults (space_of b).faults r → StandsOver v (space_of a)
      → ReadsTree v.attributes.file file (space_of a) (space_of b) → IsAttributesOver file desk (space_of b)
      → Looked space_of follows v (record v { attributes = record { file = file; desk = desk } }) a b r
  attributes_looked {T} {v} {file} {desk} {a} {b} {r} has below cause stands reads over =
      let all = attributes_read v file desk (space_of a) (space_of b) has reads over in
      looked_of below cause (stands_still v (record v { attributes = record { file = file; desk = desk } }) (space_of a) (space_of b) all stands) all

  -- the extents overflow file alone was read
  pub extents_looked : {T : Type 0} {v : Volume} {file : TreeFile} {desk : Desk} {a b : S} {r : Result T Trouble} → follows a b → HasTroubleCause (space_of a).faults (space_of b).faults r → StandsOver v (space_of a)
      → KeepsFile (space_of a).tells v.extents.file file → Looks (λ s. Contains (sectors_of_tree v.extents.file) s) (space_of a) (space_of b) → IsDeskOf (numbers_of file).node_size desk
      → Looked space_of follows v (record v { extents = record { file = file; desk = desk } }) a b r
  extents_looked {T} {v} {file} {desk} {a} {b} {r} below cause stands keeps looks fits =
      let all = extents_read v file desk (space_of a) (space_of b) keeps looks fits in
      looked_of below cause (stands_still v (record v { extents = record { file = file; desk = desk } }) (space_of a) (space_of b) all stands) all

  -- sectors were read behind a call that only read
  pub looked_on : {T U : Type 0} {v w : Volume} {a b c : S} {r : Result T Trouble} {s : Result U Trouble} → ((x y z : S) → follows x y → follows y z → follows x z)
      → Looked space_of follows v w a b r → StandsOver v (space_of a) → follows b c → HasTroubleCause (space_of b).faults (space_of c).faults s → ReadsSpace (space_of b) (space_of c) → Looked space_of follows v w a c s
  looked_on {T} {U} {v} {w} {a} {b} {c} {r} {s} both first stands below cause reads =
      let all = read_on v w (space_of a) (space_of b) (space_of c) first.reads (looks_reads (λ at. Contains (own_sectors v) at) (space_of b) (space_of c) reads) in
      looked_of (both a b c first.edits.ran.below below) (cause_since (space_of a).faults (space_of b).faults (space_of c).faults s first.edits.ran.cause.later cause)
      (stands_still v w (space_of a) (space_of c) all stands) all
