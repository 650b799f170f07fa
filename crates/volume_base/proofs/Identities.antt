-- The CNID of the file that a file's record stands for, and the attributes of what has one.
use Rattle.std.proofs.Common.{◌≡◌, ℕ, Bool, true, false, List, [], ◌∷◌, refl, sym, ◌∙◌, ap, subst, arith}
use Rattle.std.specs.Prelude.{Contains, ◌==◌, ◌&&◌, ◌^◌, nat_lt, Option, None, Some, if◌then◌else◌}
use Rattle.std.specs.Option.{option_map}
use Rattle.std.specs.Str.{bytes_eq}
use Rattle.std.specs.List.{flat_map}
use Rattle.std.proofs.lemmas.Bool.{eqb-true, true≢false, and_parts}
use Rattle.std.proofs.lemmas.Slice.Eq.{bytes_eq-Decides}
use Rattle.btree_node.specs.Levels.{Pair}
use Rattle.cat_records.specs.declared.record.FileRecord.{FileRecord}
use Rattle.cat_records.specs.declared.record.CatRecord.{CatRecord}
use Rattle.cat_records.specs.declared.record.CatRecord.TheVariants.{Folder, File, Thread}
use Rattle.catalog.specs.Pairs.{value_at}
use Rattle.hard_links.specs.Identity.{file_or}
use Rattle.hfs_model.specs.declared.plain.PlainNode.{PlainNode}
use Rattle.hfs_volume.specs.Changes.{AreSorted}
use Rattle.hfs_volume.specs.Links.{AreGoodLinks, private_id, is_shared, is_shared_file, node_name}
use Rattle.hfs_volume.specs.Records.{Placed, Overflow, Attribute, placed_in, entries_of, entry_of, record_at, is_placed_at, is_empty, is_file, id_in, is_link_type}
use Rattle.hfs_volume.specs.TreeOf.{id_or_0, shared_file, named_id, plain_attributes, plain_node, is_linked, is_plain_folder, is_plain_file, node_in, node_found, threaded_node, BytesOf, empty_forks}
use Rattle.hfs_volume.proofs.Flat.{found_none, found_some}
use Rattle.hfs_volume.proofs.Members.{in_one}
use Rattle.hfs_volume.proofs.Reaching.{flat_cases}
use Rattle.hfs_volume.proofs.Sides.{one_key, entry_is_record}
use Rattle.volume_base.specs.Owning.{identity_in}

-- a record is found under its key
pub key_found : (pairs : List Pair) → AreSorted pairs → (s : Placed) → Contains (placed_in pairs) s → (parent : ℕ) (name : List ℕ) → (s.parent == parent) ≡ true → bytes_eq s.name name ≡ true → record_at (placed_in pairs) parent name ≡ Some s
key_found pairs order s stands parent name its_parent its_name = by_found (record_at (placed_in pairs) parent name) refl
  where
    passes : is_placed_at parent name s ≡ true
    passes = λ i. its_parent i && its_name i

    by_found : (o : Option Placed) → record_at (placed_in pairs) parent name ≡ o → o ≡ Some s
    by_found None is = absurd (true≢false (sym passes ∙ found_none (is_placed_at parent name) (placed_in pairs) is s stands))
    by_found (Some r) is =
        let its = found_some (is_placed_at parent name) (placed_in pairs) r is in
        let also = and_parts (r.parent == parent) (bytes_eq r.name name) its.1 in
        ap Some (one_key (placed_in pairs) order r s its.0 stands (eqb-true r.parent parent also.0 ∙ sym (eqb-true s.parent parent its_parent))
        ((bytes_eq-Decides r.name name).0 also.1 ∙ sym ((bytes_eq-Decides s.name name).0 its_name)))

file_there : (other : FileRecord) (value : CatRecord) → is_file value ≡ true → (file_or other (Some value)).fields.id ≡ id_in value
file_there other (Folder folder) is = absurd (true≢false (sym is))
file_there other (File file) is = refl
file_there other (Thread thread) is = absurd (true≢false (sym is))

module _ (pairs : List Pair) (overflow : List Overflow) (links : AreGoodLinks (placed_in pairs) overflow) (order : AreSorted pairs) where
  abbrev records : List Placed
  records = placed_in pairs

  -- the file that a record stands for has the CNID that the entry names on the tree
  pub identity_is : (parent : ℕ) (name : List ℕ) (file : FileRecord) → Contains (entries_of records) (record { parent = parent; name = name; value = File file })
      → (identity_in pairs (private_id records) file).fields.id ≡ named_id records (record { parent = parent; name = name; value = File file })
  identity_is parent name file stands = by_link (is_link_type file.fields) refl (private_id records) refl
    where
      p : Placed
      p = record { parent = parent; name = name; value = File file }

      by_shared : (private : ℕ) → private_id records ≡ Some private → is_link_type file.fields ≡ true → (o : Option Placed) → shared_file records file.fields.special ≡ o
          → (file_or file (value_at pairs private (node_name file.fields.special))).fields.id ≡ id_or_0 o
      by_shared private at is None none =
          let good = (links.links (record { parent = parent; name = name; value = File file }) stands is).node in
          absurd (true≢false (sym good.2 ∙ found_none (is_shared_file records file.fields.special) (entries_of records) none good.0 good.1))
      by_shared private at is (Some s) found =
          let its = found_some (is_shared_file records file.fields.special) (entries_of records) s found in
          let shared : is_shared (Some private) file.fields.special s ≡ true = ap (λ o. is_shared o file.fields.special s) (sym at) ∙ its.1 in
          let all = and_parts ((s.parent == private) && is_file s.value && bytes_eq s.name (node_name file.fields.special)) (nat_lt file.fields.special (2 ^ 32)) shared in
          let three = and_parts ((s.parent == private) && is_file s.value) (bytes_eq s.name (node_name file.fields.special)) all.0 in
          let two = and_parts (s.parent == private) (is_file s.value) three.0 in
          ap (λ (o : Option Placed). (file_or file (option_map (λ (q : Placed). q.value) o)).fields.id) (key_found pairs order s (entry_is_record records s its.0) private (node_name file.fields.special) two.0 three.1)
          ∙ file_there file s.value two.1

      by_link : (b : Bool) → is_link_type file.fields ≡ b → (o : Option ℕ) → private_id records ≡ o
          → (identity_in pairs o file).fields.id ≡ (if is_link_type file.fields then id_or_0 (shared_file records file.fields.special) else file.fields.id)
      by_link false is None at = sym (ap (λ b. if b then id_or_0 (shared_file records file.fields.special) else file.fields.id) is)
      by_link false is (Some private) at =
          ap (λ b. (if b then file_or file (value_at pairs private (node_name file.fields.special)) else file).fields.id) is
          ∙ sym (ap (λ b. if b then id_or_0 (shared_file records file.fields.special) else file.fields.id) is)
      by_link true is None at =
          let good = (links.links (record { parent = parent; name = name; value = File file }) stands is).node in
          absurd (true≢false (sym good.2 ∙ ap (λ o. is_shared o file.fields.special good.0) at))
      by_link true is (Some private) at =
          ap (λ b. (if b then file_or file (value_at pairs private (node_name file.fields.special)) else file).fields.id) is
          ∙ by_shared private at is (shared_file records file.fields.special) refl
          ∙ sym (ap (λ b. if b then id_or_0 (shared_file records file.fields.special) else file.fields.id) is)

-- each folder or file of the tree has the attributes of its CNID
pub node_attributes : (attributes : List Attribute) (records : List Placed) (bytes_of : BytesOf) (n : PlainNode) → Contains (flat_map (threaded_node attributes records bytes_of) records) n → n.attributes ≡ plain_attributes attributes n.id
node_attributes attributes records bytes_of n stands =
    let found = flat_cases (threaded_node attributes records bytes_of) records n stands in by_name (is_empty found.0.name) (entry_of records found.0.parent) found.2
  where
    one : (m : PlainNode) → m.attributes ≡ plain_attributes attributes m.id → (b : Bool) → Contains (if b then m ∷ [] else []) n → n.attributes ≡ plain_attributes attributes n.id
    one m is true has = subst (λ (k : PlainNode). k.attributes ≡ plain_attributes attributes k.id) (sym (in_one m n has)) is
    one m is false has = absurd (omega (arith, has.1))

    of_value : (e : Placed) (value : CatRecord) → Contains (node_in attributes records bytes_of e value) n → n.attributes ≡ plain_attributes attributes n.id
    of_value e (Folder folder) has = one (plain_node attributes folder.fields true empty_forks false) refl (is_plain_folder records e) has
    of_value e (File file) has = one (plain_node attributes file.fields false (bytes_of.file file) (is_linked records e)) refl (is_plain_file records e) has
    of_value e (Thread thread) has = absurd (omega (arith, has.1))

    of_found : (o : Option Placed) → Contains (node_found attributes records bytes_of o) n → n.attributes ≡ plain_attributes attributes n.id
    of_found None has = absurd (omega (arith, has.1))
    of_found (Some e) has = of_value e e.value has

    by_name : (b : Bool) (o : Option Placed) → Contains (if b then node_found attributes records bytes_of o else []) n → n.attributes ≡ plain_attributes attributes n.id
    by_name true o has = of_found o has
    by_name false o has = absurd (omega (arith, has.1))
