-- A finding of each rule that is broken and can be judged.
use Rattle.std.proofs.Common.{◌≡◌, ◌≢◌, ◌⊎◌, ◌<◌, ◌≤◌, ℕ, List, [], ◌∷◌, ◌++◌, length, inl, inr, refl, sym, ◌∙◌, arith, ⊎_elim}
use Rattle.std.specs.Prelude.{Contains}
use Rattle.std.specs.List.{flat_map}
use Rattle.std.proofs.lemmas.Bool.{cases_lt, cases_eq}
use Rattle.std.proofs.lemmas.List.Elements.{Contains-append_cases, Contains-append_right}
use Rattle.std.specs.declared.cmp.Ordering.{Ordering}
use Rattle.jnl_format.specs.Recovery.{Content}
use Rattle.btree_node.specs.Keys.{IsCatalogKey, IsExtentKey, IsAttrKey, catalog_cmp, extent_cmp, attr_cmp, is_eight_extents, anything}
use Rattle.btree_node.specs.TreeFile.{TreeFile, TreeForm, extents_form, catalog_form, attributes_form}
use Rattle.hfs_volume.specs.Forks.{extents_id, catalog_id, attributes_id}
use Rattle.fsck_list.specs.declared.finding.Finding.{Finding as Listed}
use Rattle.fsck_list.specs.Kept.{IsListed}
use Rattle.hfs_volume.specs.Blocks.{IsGoodHeader, AgreesWith, HasFiles, forks_of}
use Rattle.hfs_volume.specs.Broken.{Finding, want, IsUnmet, IsFailed, IsBroken, IsBrokenNode, IsBrokenTree, IsBrokenEntry, IsBrokenLink, IsBrokenBlock, header_wants, alternate_wants, fork_wants, overflow_wants, value_wants, use_wants, id_wants, FailsThread, FailsParent}
use Rattle.hfs_volume.specs.Content.{VolumeState, volume_of, records_of, overflow_in_volume, attributes_of, extents_file, catalog_file, attributes_file}
use Rattle.hfs_volume.specs.Nodes.{HasTrees}
use Rattle.hfs_volume.specs.Records.{placed_in, entries_of}
use Rattle.hfs_volume.proofs.Members.{at_front}
use Rattle.fsck_core.specs.Attributes.{IsBrokenOfNames}
use Rattle.fsck_core.specs.Decided.{IsTold, TellsOf, TellsAfter}
use Rattle.fsck_core.specs.Links.{IsBrokenName}
use Rattle.fsck_core.specs.Lists.{IsJudged, IsBrokenCatalog}
use Rattle.fsck_core.specs.Passed.{IsLate, IsBrokenList, HasEarly, ListsLate}
use Rattle.fsck_core.specs.Rules.{RestsOn, CanBeJudged, HasRule, EachRule, TellsHeaders}
use Rattle.fsck_core.specs.Shown.{FindsEarly}
use Rattle.fsck_core.specs.Telling.{IsBrokenKind, IsBrokenSize, IsBrokenOverflow, IsBrokenOfAttributes, TellsForks}
use Rattle.fsck_core.specs.Wants.{as_found}
use Rattle.fsck_core.proofs.JudgingLaws.{catalog_broken}
use Rattle.fsck_core.proofs.UnbrokenLaws.{nodes_unbroken, header_unbroken, alternate_unbroken, files_unbroken}

-- a finding that is listed is one of its rule, or the list is full of those up to it
listed_rule : (list : List Listed) (f : Listed) (rule : ℕ) → f.rule ≡ rule → IsListed list f → HasRule list rule
listed_rule list f rule is (inl stands) = inl (f, stands, is)
listed_rule list f rule is (inr full) = inr (
  full.0,
  λ g there. ⊎_elim
      (λ (above : f.rule < g.rule). absurd (full.1 g there (inl above)))
      (λ (few : g.rule ≤ f.rule). omega (arith, few, is))
      (cases_lt f.rule g.rule),
)

told_rule : (Says : Finding → Type 0) (list : List Listed) (rule : ℕ) → ((f : Finding) → Says f → f.rule ≡ rule) → IsTold Says list → HasRule list rule
told_rule Says list rule is told = listed_rule list told.0 rule (is (as_found told.0) told.1) told.2

tree_high : (form : TreeForm) (is_key is_value : List ℕ → Type 0) (cmp : List ℕ → List ℕ → Ordering) (id : ℕ) (tree : TreeFile) (f : Finding) → IsBrokenTree form is_key is_value cmp id tree f → 3 ≤ f.rule
tree_high form is_key is_value cmp id tree f (inl unmet) = let is : f.rule ≡ 4 = unmet.0 in omega (arith, is)
tree_high form is_key is_value cmp id tree f (inr (inl fails)) = let is : f.rule ≡ 5 = fails.0 in omega (arith, is)
tree_high form is_key is_value cmp id tree f (inr (inr (inl fails))) = let is : f.rule ≡ 6 = fails.0 in omega (arith, is)
tree_high form is_key is_value cmp id tree f (inr (inr (inr unmet))) = let is : f.rule ≡ 7 = unmet.0 in omega (arith, is)

node_high : (content : Content) (f : Finding) → IsBrokenNode content f → 3 ≤ f.rule
node_high content f (inl tree) = tree_high extents_form IsExtentKey is_eight_extents extent_cmp extents_id (extents_file content) f tree
node_high content f (inr (inl tree)) = tree_high catalog_form IsCatalogKey anything catalog_cmp catalog_id (catalog_file content) f tree
node_high content f (inr (inr (inl unmet))) = let is : f.rule ≡ 4 = unmet.0 in omega (arith, is)
node_high content f (inr (inr (inr (inl unmet)))) = let is : f.rule ≡ 4 = unmet.0 in omega (arith, is)
node_high content f (inr (inr (inr (inr (has, inl tree))))) = tree_high attributes_form IsAttrKey anything attr_cmp attributes_id (attributes_file content) f tree
node_high content f (inr (inr (inr (inr (has, inr unmet))))) = let is : f.rule ≡ 4 = unmet.0 in omega (arith, is)

-- ---- where a rule of the first seven is broken

module _ (content : Content) (list : List Listed) where
  abbrev volume : VolumeState
  volume = volume_of content

  header_rules : TellsHeaders content list → (f : Finding) → IsBroken content f → f.rule < 3 → HasRule list f.rule
  header_rules tells f (inl node) low = absurd (let high = node_high content f node in omega (arith, high, low))
  header_rules tells f (inr (inl (inl fails))) low = absurd (let is : f.rule ≡ 8 = fails.0 in omega (arith, is, low))
  header_rules tells f (inr (inl (inr (inl fails)))) low = absurd (let is : f.rule ≡ 9 = fails.0 in omega (arith, is, low))
  header_rules tells f (inr (inl (inr (inr (inl fails))))) low = absurd (let is : f.rule ≡ 10 = fails.0 in omega (arith, is, low))
  header_rules tells f (inr (inl (inr (inr (inr (inl unmet)))))) low = absurd (let is : f.rule ≡ 11 = unmet.0 in omega (arith, is, low))
  header_rules tells f (inr (inl (inr (inr (inr (inr (inl unmet))))))) low = absurd (let is : f.rule ≡ 12 = unmet.0 in omega (arith, is, low))
  header_rules tells f (inr (inl (inr (inr (inr (inr (inr unmet))))))) low = absurd (let is : f.rule ≡ 15 = unmet.0 in omega (arith, is, low))
  header_rules tells f (inr (inr (inl (inl unmet)))) low = absurd (let is : f.rule ≡ 19 = unmet.0 in omega (arith, is, low))
  header_rules tells f (inr (inr (inl (inr (inl fails))))) low = absurd (let is : f.rule ≡ 19 = fails.0 in omega (arith, is, low))
  header_rules tells f (inr (inr (inl (inr (inr fails))))) low = absurd (let is : f.rule ≡ 20 = fails.0 in omega (arith, is, low))
  header_rules tells f (inr (inr (inr (inl unmet)))) low = told_rule (λ g. IsUnmet 1 g (header_wants volume.sectors volume.head)) list f.rule (λ g says. says.0 ∙ sym unmet.0) (tells.0 f unmet)
  header_rules tells f (inr (inr (inr (inr (inl unmet))))) low = told_rule (λ g. IsUnmet 2 g (alternate_wants volume.head volume.alternate)) list f.rule (λ g says. says.0 ∙ sym unmet.0) (tells.1 f unmet)
  header_rules tells f (inr (inr (inr (inr (inr (inl unmet)))))) low = absurd (let is : f.rule ≡ 3 = unmet.0 in omega (arith, is, low))
  header_rules tells f (inr (inr (inr (inr (inr (inr (inl unmet))))))) low = absurd (let is : f.rule ≡ 13 = unmet.0 in omega (arith, is, low))
  header_rules tells f (inr (inr (inr (inr (inr (inr (inr (inl unmet)))))))) low = absurd (let is : f.rule ≡ 14 = unmet.0 in omega (arith, is, low))
  header_rules tells f (inr (inr (inr (inr (inr (inr (inr (inr (inl unmet))))))))) low = absurd (let is : f.rule ≡ 16 = unmet.0 in omega (arith, is, low))
  header_rules tells f (inr (inr (inr (inr (inr (inr (inr (inr (inr (inl fails)))))))))) low = absurd (let is : f.rule ≡ 17 = fails.0 in omega (arith, is, low))
  header_rules tells f (inr (inr (inr (inr (inr (inr (inr (inr (inr (inr unmet)))))))))) low = absurd (let is : f.rule ≡ 18 = unmet.0 in omega (arith, is, low))

first_found : (list : List Listed) → 0 < length list → (f : Listed) × Contains list f
first_found [] some = absurd (omega (arith, some))
first_found (f ∷ rest) some = (f, at_front f rest)

pub early_rules : (content : Content) (list : List Listed) → 0 < length list → FindsEarly content list → TellsHeaders content list → EachRule content list
early_rules content list some each headers f broken judged = ⊎_elim
    (λ (low : f.rule < 3). header_rules content list headers f broken low)
    (λ (high : 3 ≤ f.rule).
    let first = first_found list some in
    let early = each first.0 first.1 in
    ⊎_elim
    (λ (same : (first.0).rule ≡ f.rule). inl (first.0, first.1, same))
    (λ (other : (first.0).rule ≢ f.rule). absurd (judged (as_found first.0) early.0 (other, inl (high, early.1))))
    (cases_eq (first.0).rule f.rule))
    (cases_lt f.rule 3)

-- ---- where none is

module _ (content : Content) (list : List Listed) (good : IsGoodHeader (volume_of content).sectors (volume_of content).head) (agrees : AgreesWith (volume_of content).head (volume_of content).alternate)
    (files : HasFiles (volume_of content)) (trees : HasTrees content) (judged : IsJudged (volume_of content) list)
  where
    abbrev whole : VolumeState
    whole = volume_of content

    -- a finding that is told of a rule on which another rests
    no_first : (First : Finding → Type 0) (rule : ℕ) → CanBeJudged content rule → ((g : Finding) → First g → IsBroken content g) → ((g : Finding) → First g → RestsOn rule g.rule) → IsTold First list → ⊥
    no_first First rule can is rests told = can (as_found told.0) (is (as_found told.0) told.1) (rests (as_found told.0) told.1)

    kind_broken : (g : Finding) → IsBrokenKind whole.catalog_pairs g → IsBroken content g
    kind_broken g fails = inr (inl (inl fails))

    overflow_broken : (g : Finding) → IsBrokenOverflow whole g → IsBroken content g
    overflow_broken g fails = inr (inr (inr (inr (inr (inr (inr (inr (inr (inl fails)))))))))

    catalog_first : (rule : ℕ) → 11 ≤ rule → (g : Finding) → IsBrokenCatalog whole.catalog_pairs g → RestsOn rule g.rule
    catalog_first rule high g (inl fails) = let is : g.rule ≡ 8 = fails.0 in ((λ same. omega (arith, same, is, high)), inr (inr (inl (high, omega (arith, is)))))
    catalog_first rule high g (inr (inl fails)) = let is : g.rule ≡ 9 = fails.0 in ((λ same. omega (arith, same, is, high)), inr (inr (inl (high, omega (arith, is)))))
    catalog_first rule high g (inr (inr fails)) = let is : g.rule ≡ 10 = fails.0 in ((λ same. omega (arith, same, is, high)), inr (inr (inl (high, omega (arith, is)))))

    kind_first : (rule : ℕ) → 9 ≤ rule → (g : Finding) → IsBrokenKind whole.catalog_pairs g → RestsOn rule g.rule
    kind_first rule high g fails = let is : g.rule ≡ 8 = fails.0 in ((λ same. omega (arith, same, is, high)), inr (inl (high, is)))

    overflow_first : (rule : ℕ) → ((rule ≡ 16) ⊎ ((rule ≡ 19) ⊎ (rule ≡ 20))) → (rule ≡ 17 → ⊥) → (g : Finding) → IsBrokenOverflow whole g → RestsOn rule g.rule
    overflow_first rule names differs g fails = let is : g.rule ≡ 17 = fails.0 in ((λ same. differs (sym same ∙ is)), inr (inr (inr (inl (names, is)))))

    -- behind rule 8
    behind_kind : (Says : Finding → Type 0) (f : Finding) → 9 ≤ f.rule → CanBeJudged content f.rule → Says f → ((g : Finding) → Says g → g.rule ≡ f.rule) → TellsAfter (IsBrokenKind whole.catalog_pairs) Says list → HasRule list f.rule
    behind_kind Says f high can says is (inl first) = absurd (no_first (IsBrokenKind whole.catalog_pairs) f.rule can kind_broken (kind_first f.rule high) first)
    behind_kind Says f high can says is (inr tells) = told_rule Says list f.rule is (tells f says)

    -- behind rule 17
    behind_overflow : (Says : Finding → Type 0) (f : Finding) → ((f.rule ≡ 16) ⊎ ((f.rule ≡ 19) ⊎ (f.rule ≡ 20))) → (f.rule ≡ 17 → ⊥) → CanBeJudged content f.rule → Says f → TellsAfter (IsBrokenOverflow whole) Says list → IsTold Says list
    behind_overflow Says f names differs can says (inl first) = absurd (no_first (IsBrokenOverflow whole) f.rule can overflow_broken (overflow_first f.rule names differs) first)
    behind_overflow Says f names differs can says (inr tells) = tells f says

    -- rules 11 to 14
    late_rule : (f : Finding) → 11 ≤ f.rule → CanBeJudged content f.rule → IsLate whole f → HasEarly list ⊎ ListsLate whole list → HasRule list f.rule
    late_rule f high can late (inl early) = absurd (can (as_found early.0) (inr (judged.each early.0 early.1)) ((λ same. let few = early.2 in omega (arith, same, few, high)), inr (inr (inl (high, early.2)))))
    late_rule f high can late (inr lists) =
        listed_rule list (record { rule = f.rule; place = f.place; found = f.found; wanted = f.wanted }) f.rule refl (lists (record { rule = f.rule; place = f.place; found = f.found; wanted = f.wanted }) late)

    -- rule 16, of attributes
    value_rule : (f : Finding) → f.rule ≡ 16 → CanBeJudged content f.rule → IsTold (IsBrokenOfNames whole) list → HasRule list f.rule
    value_rule f is can told = by told.1
      where
        by : IsBrokenOfNames whole (as_found told.0) → HasRule list f.rule
        by (inl fails) = absurd (can (as_found told.0) (inr (inr (inl (inr (inr fails))))) ((λ same. let own : (told.0).rule ≡ 20 = fails.0 in omega (arith, same, own, is)), inr (inr (inr (inr (is, fails.0))))))
        by (inr unmet) = listed_rule list told.0 f.rule (unmet.0 ∙ sym is) told.2

    entry_rule : (f : Finding) → CanBeJudged content f.rule → IsBrokenEntry whole f → HasRule list f.rule
    entry_rule f can (inl fails) = told_rule (IsBrokenKind whole.catalog_pairs) list f.rule (λ g says. says.0 ∙ sym fails.0) (judged.rules.0.kinds f fails)
    entry_rule f can (inr (inl fails)) =
        let is : f.rule ≡ 9 = fails.0 in behind_kind (λ g. IsFailed 9 g (FailsThread (placed_in whole.catalog_pairs))) f (omega (arith, is)) can fails (λ g says. says.0 ∙ sym fails.0) judged.rules.0.threads
    entry_rule f can (inr (inr (inl fails))) =
        let is : f.rule ≡ 10 = fails.0 in behind_kind (λ g. IsFailed 10 g (FailsParent (entries_of (placed_in whole.catalog_pairs)))) f (omega (arith, is)) can fails (λ g says. says.0 ∙ sym fails.0) judged.rules.0.parents
    entry_rule f can (inr (inr (inr (inl unmet)))) = let is : f.rule ≡ 11 = unmet.0 in late_rule f (omega (arith, is)) can (inl unmet) judged.late
    entry_rule f can (inr (inr (inr (inr (inl unmet))))) = let is : f.rule ≡ 12 = unmet.0 in late_rule f (omega (arith, is)) can (inr (inl unmet)) judged.late
    entry_rule f can (inr (inr (inr (inr (inr unmet))))) = let is : f.rule ≡ 15 = unmet.0 in ⊎_elim
        (λ (first : IsTold (IsBrokenCatalog whole.catalog_pairs) list). absurd (no_first (IsBrokenCatalog whole.catalog_pairs) f.rule can (λ g fails. inr (catalog_broken whole g fails)) (catalog_first f.rule (omega (arith, is))) first))
        (λ (forks : TellsForks whole list). told_rule (λ g. IsUnmet 15 g (flat_map (id_wants whole.head.next_catalog_id (entries_of (records_of whole))) (entries_of (records_of whole)))) list f.rule (λ g says. says.0 ∙ sym unmet.0) (forks.ids f unmet))
        judged.rules.1

    link_rule : (f : Finding) → CanBeJudged content f.rule → IsBrokenLink whole f → HasRule list f.rule
    link_rule f can broken = ⊎_elim
        (λ (first : IsTold (IsBrokenCatalog whole.catalog_pairs) list). absurd (no_first (IsBrokenCatalog whole.catalog_pairs) f.rule can (λ g fails. inr (catalog_broken whole g fails)) (catalog_first f.rule (high broken)) first))
        (λ (forks : TellsForks whole list). by broken forks.names.links forks.names.attributes)
        judged.rules.1
      where
        high : IsBrokenLink whole f → 11 ≤ f.rule
        high (inl unmet) = let is : f.rule ≡ 19 = unmet.0 in omega (arith, is)
        high (inr (inl fails)) = let is : f.rule ≡ 19 = fails.0 in omega (arith, is)
        high (inr (inr fails)) = let is : f.rule ≡ 20 = fails.0 in omega (arith, is)

        name_is : f.rule ≡ 19 → (g : Finding) → IsBrokenName whole g → g.rule ≡ f.rule
        name_is is g (inl unmet) = unmet.0 ∙ sym is
        name_is is g (inr fails) = fails.0 ∙ sym is

        of_name : f.rule ≡ 19 → IsBrokenName whole f → TellsAfter (IsBrokenOverflow whole) (IsBrokenName whole) list → HasRule list f.rule
        of_name is says tells = told_rule (IsBrokenName whole) list f.rule (name_is is) (behind_overflow (IsBrokenName whole) f (inr (inl is)) (λ same. omega (arith, same, is)) can says tells)

        by : IsBrokenLink whole f → TellsAfter (IsBrokenOverflow whole) (IsBrokenName whole) list → TellsAfter (IsBrokenOverflow whole) (IsBrokenOfAttributes whole) list → HasRule list f.rule
        by (inl unmet) links attributes = of_name unmet.0 (inl unmet) links
        by (inr (inl fails)) links attributes = of_name fails.0 (inr fails) links
        by (inr (inr fails)) links attributes =
            let is : f.rule ≡ 20 = fails.0 in told_rule (IsBrokenOfAttributes whole) list f.rule (λ g says. says.0 ∙ sym is) (behind_overflow (IsBrokenOfAttributes whole) f (inr (inr is)) (λ same. omega (arith, same, is)) can fails attributes)

    size_rule : (f : Finding) → CanBeJudged content f.rule → IsUnmet 16 f (flat_map (fork_wants whole) (forks_of whole) ++ flat_map (overflow_wants whole) (overflow_in_volume whole) ++ flat_map (value_wants whole) (attributes_of whole))
        → TellsAfter (IsBrokenOverflow whole) (IsBrokenSize whole) list → TellsAfter (IsBrokenOverflow whole) (IsBrokenOfNames whole) list → HasRule list f.rule
    size_rule f can unmet sizes attributes = let is : f.rule ≡ 16 = unmet.0 in
        ⊎_elim
        (λ early. told_rule (IsBrokenSize whole) list f.rule (λ g says. says.0 ∙ sym unmet.0) (behind_overflow (IsBrokenSize whole) f (inl is) (λ same. omega (arith, same, is)) can (unmet.0, unmet.1, early) sizes))
        (λ late. value_rule f is can (behind_overflow (IsBrokenOfNames whole) f (inl is) (λ same. omega (arith, same, is)) can (inr (unmet.0, unmet.1, late)) attributes))
        (Contains-append_cases (flat_map (fork_wants whole) (forks_of whole) ++ flat_map (overflow_wants whole) (overflow_in_volume whole)) (flat_map (value_wants whole) (attributes_of whole)) (want f.place f.found f.wanted) unmet.2)

    block_rule : (f : Finding) → CanBeJudged content f.rule → IsBrokenBlock whole f → HasRule list f.rule
    block_rule f can (inl unmet) = absurd (header_unbroken content files trees good f unmet)
    block_rule f can (inr (inl unmet)) = absurd (alternate_unbroken content files trees agrees f unmet)
    block_rule f can (inr (inr (inl unmet))) = absurd (files_unbroken content files trees f unmet)
    block_rule f can (inr (inr (inr (inl unmet)))) = let is : f.rule ≡ 13 = unmet.0 in late_rule f (omega (arith, is)) can (inr (inr (inl unmet))) judged.late
    block_rule f can (inr (inr (inr (inr (inl unmet))))) = let is : f.rule ≡ 14 = unmet.0 in late_rule f (omega (arith, is)) can (inr (inr (inr unmet))) judged.late
    block_rule f can (inr (inr (inr (inr (inr (inl unmet)))))) = let is : f.rule ≡ 16 = unmet.0 in ⊎_elim
        (λ (first : IsTold (IsBrokenCatalog whole.catalog_pairs) list). absurd (no_first (IsBrokenCatalog whole.catalog_pairs) f.rule can (λ g fails. inr (catalog_broken whole g fails)) (catalog_first f.rule (omega (arith, is))) first))
        (λ (forks : TellsForks whole list). size_rule f can unmet forks.names.forks forks.names.values)
        judged.rules.1
    block_rule f can (inr (inr (inr (inr (inr (inr (inl fails))))))) = let is : f.rule ≡ 17 = fails.0 in ⊎_elim
        (λ (first : IsTold (IsBrokenCatalog whole.catalog_pairs) list). absurd (no_first (IsBrokenCatalog whole.catalog_pairs) f.rule can (λ g broken. inr (catalog_broken whole g broken)) (catalog_first f.rule (omega (arith, is))) first))
        (λ (forks : TellsForks whole list). told_rule (IsBrokenOverflow whole) list f.rule (λ g says. says.0 ∙ sym fails.0) (forks.names.overflow f fails))
        judged.rules.1
    block_rule f can (inr (inr (inr (inr (inr (inr (inr unmet))))))) = let is : f.rule ≡ 18 = unmet.0 in ⊎_elim
        (λ (first : IsTold (IsBrokenCatalog whole.catalog_pairs) list). absurd (no_first (IsBrokenCatalog whole.catalog_pairs) f.rule can (λ g fails. inr (catalog_broken whole g fails)) (catalog_first f.rule (omega (arith, is))) first))
        (λ (forks : TellsForks whole list). told_rule (λ g. IsUnmet 18 g (use_wants whole)) list f.rule (λ g says. says.0 ∙ sym unmet.0) (forks.uses f unmet))
        judged.rules.1

    rules_told : EachRule content list
    rules_told f (inl node) can = absurd (nodes_unbroken content files trees f node)
    rules_told f (inr (inl entry)) can = entry_rule f can entry
    rules_told f (inr (inr (inl link))) can = link_rule f can link
    rules_told f (inr (inr (inr block))) can = block_rule f can block

pub later_rules : (content : Content) (list : List Listed) → IsGoodHeader (volume_of content).sectors (volume_of content).head → AgreesWith (volume_of content).head (volume_of content).alternate → HasFiles (volume_of content) → HasTrees content
    → IsJudged (volume_of content) list → EachRule content list
later_rules content list good agrees files trees judged = rules_told content list good agrees files trees judged
