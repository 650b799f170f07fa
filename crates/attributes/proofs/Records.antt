-- The records that hold values: their lengths, and that they are read back.
use Rattle.std.proofs.Common.{◌≡◌, ◌≤◌, ℕ, List, length, sym, subst, arith}
use Rattle.std.proofs.lemmas.List.{length-append, length-replicate}
use Rattle.hx_bytes.specs.Fork.{FitsExtents, FitsFork}
use Rattle.hx_bytes.specs.declared.extents.ExtentRecord.{ExtentRecord}
use Rattle.hx_bytes.specs.declared.extents.ForkRecord.{ForkRecord}
use Rattle.hx_bytes.specs.declared.fields.Order.TheVariants.{Big}
use Rattle.hx_bytes.proofs.Forks.{length-extents_bytes, length-fork_bytes}
use Rattle.hx_bytes.proofs.Laws.{length-number_bytes}
use Rattle.cat_records.specs.Attributes.{attr_bytes}
use Rattle.cat_records.specs.declared.attribute.AttrRecord.TheVariants.{Fork, Inline, More}
use Rattle.cat_records.proofs.AttrBack.{fork_back, fork_spells, inline_back, inline_spells, more_back, more_spells}
use Rattle.cat_records.proofs.AttrSpelled.{no_fault}
use Rattle.attributes.specs.Forks.{Part, SpellsPart}
use Rattle.attributes.specs.Values.{IsKeyOf, SpellsRecord}
use Rattle.attributes.specs.declared.pair.AttributePair.{AttributePair}

-- a pair by its key and the record whose bytes it has
pub part_spelled : (id : ℕ) (name : List ℕ) (part : Part) (pair : AttributePair) → IsKeyOf id name part.start pair.key → SpellsRecord part.value (attr_bytes part.value) → length (attr_bytes part.value) ≤ 1716
    → pair.value ≡ attr_bytes part.value → SpellsPart id name part pair
part_spelled id name part pair key spells short is = record {
  key = key;
  value = subst (SpellsRecord part.value) (sym is) spells;
  short = subst (λ l. length l ≤ 1716) (sym is) short;
}

pub inline_spelled : (value : List ℕ) → length value ≤ 1700 → SpellsRecord (Inline value) (attr_bytes (Inline value))
inline_spelled value short = record {
  spelled = no_fault (attr_bytes (Inline value)) (inline_spells value (omega (arith, short)));
  read = inline_back value (omega (arith, short));
}

pub inline_long : (value : List ℕ) → length value ≤ 1700 → length (attr_bytes (Inline value)) ≤ 1716
inline_long value short = omega (arith, short, length-append {A = ℕ}, length-number_bytes Big, length-replicate {A = ℕ})

pub fork_spelled : (fork : ForkRecord) → FitsFork fork → SpellsRecord (Fork fork) (attr_bytes (Fork fork))
fork_spelled fork fits = record { spelled = no_fault (attr_bytes (Fork fork)) (fork_spells fork fits); read = fork_back fork fits }

pub fork_long : (fork : ForkRecord) → FitsFork fork → length (attr_bytes (Fork fork)) ≤ 1716
fork_long fork fits =
    let extents = length-extents_bytes fork.extents fits.extents.eight in
    omega (arith, length-append {A = ℕ}, length-number_bytes Big, length-replicate {A = ℕ}, length-fork_bytes fork extents)

pub more_spelled : (extents : ExtentRecord) → FitsExtents extents → SpellsRecord (More extents) (attr_bytes (More extents))
more_spelled extents fits = record { spelled = no_fault (attr_bytes (More extents)) (more_spells extents fits); read = more_back extents fits }

pub more_long : (extents : ExtentRecord) → FitsExtents extents → length (attr_bytes (More extents)) ≤ 1716
more_long extents fits = omega (arith, length-append {A = ℕ}, length-number_bytes Big, length-replicate {A = ℕ}, length-extents_bytes extents fits.eight)
