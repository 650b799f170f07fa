-- The numbers of data that is put: as the code counts blocks, and as the weight does.
use Rattle.std.proofs.Common.{◌≡◌, ◌⊎◌, inl, inr, ◌<◌, ◌≤◌, ℕ, zero, suc, ◌+◌, ◌-◌, ◌*◌, ◌/◌, min, max, Bool, true, false, List, length, refl, sym, ◌∙◌, ap, subst, arith, ⊎_elim}
use Rattle.std.specs.Prelude.{nat_lt, if◌then◌else◌}
use Rattle.std.proofs.Math.Nat.{add-mul}
use Rattle.std.proofs.lemmas.Bool.{cases_lt, le-ltb, lt-ltb}
use Rattle.std.proofs.lemmas.Nat.{div_below}
use Rattle.file_io.specs.Places.{blocks_for, first_block, new_blocks, old_end}
use Rattle.file_io.proofs.PlaceLaws.{blocks_hold, blocks_least, first_of}
use Rattle.hfs_volume.specs.Forks.{parts_for}
use Rattle.hfs_volume.specs.Weight.{Data, end_block, grows, new_blocks_of, old_blocks_of, first_block as first_of_data}
use Rattle.volume_space.specs.Writing.{IsAt}
use Rattle.volume_base.proofs.CostSame.{parts_hold}

-- a quotient, rounded up, is the least that suffices
parts_least : (n b k : ℕ) → 0 < b → n ≤ k * b → parts_for n b ≤ k
parts_least n b k some less =
    let product : (k + 1) * b ≡ k * b + 1 * b = add-mul k 1 b in
    omega (arith, div_below (n + b - 1) b (k + 1) some (omega (arith, less, product, some)))

pub parts_are : (n b : ℕ) → 0 < b → parts_for n b ≡ blocks_for b n
parts_are n b some = omega (arith, parts_least n b (blocks_for b n) some (blocks_hold b n some), blocks_least b n (parts_for n b) some (parts_hold n b some))

module _ (put : Data) (size from end block : ℕ) (at : IsAt put size from end) (some : 0 < block) where
  pub first_is : first_of_data block put ≡ first_block block size from
  first_is = ap (λ n. n / block) at.place

  end_is : end_block block put ≡ blocks_for block end
  end_is = ⊎_elim
      (λ (longer : put.old_size < put.new_size). ap (λ b. if b then parts_for put.new_size block else parts_for put.end block) (lt-ltb put.old_size put.new_size longer)
      ∙ ap (λ n. parts_for n block) (let e : put.new_size ≡ end = omega (arith, longer, at.size_is, at.new_is) in e) ∙ parts_are end block some)
      (λ (same : put.new_size ≤ put.old_size). ap (λ b. if b then parts_for put.new_size block else parts_for put.end block) (le-ltb put.old_size put.new_size same) ∙ ap (λ n. parts_for n block) at.end_is ∙ parts_are end block some)
      (cases_lt put.old_size put.new_size)

  pub fresh_is : new_blocks_of block put ≡ new_blocks block size from end
  fresh_is = λ i. end_is i - first_is i

  pub freed_is : old_blocks_of block put ≡ old_end block size end - first_block block size from
  freed_is = λ i. min (end_is i) ((ap (λ n. parts_for n block) at.size_is ∙ parts_are size block some) i) - first_is i
