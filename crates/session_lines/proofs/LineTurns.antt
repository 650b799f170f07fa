-- What is known of a line that was served, whether it is one of sessions or one on a link or a resource fork, or one that was refused.
use Rattle.std.proofs.Common.{◌≡◌, ◌⊎◌, ◌≤◌, ℕ, zero, suc, List, [], ◌∷◌, inl, inr, length, subst, sym, ◌∙◌, ap, arith}
use Rattle.std.specs.Prelude.{take}
use Rattle.jnl_format.specs.Recovery.{Content}
use Rattle.volume_runs.specs.Run.{Entry, tree_after}
use Rattle.open_files.specs.Keeping.{seen}
use Rattle.open_files.specs.Machine.{Machine, Turn}
use Rattle.session_lines.specs.Made.{SeesAs}
use Rattle.session_lines.specs.Turns.{IsCompressedTurn, IsLineTurn}

module _ (start : Content) (machine : Machine) (line : List ℕ) (own : List Entry) (turn : Turn) where
  pub line_tree : IsLineTurn start machine line own turn → tree_after start own ≡ turn.next.tree
  line_tree (inl is) = is.1.tree
  line_tree (inr (inl is)) = is.1.tree
  line_tree (inr (inr is)) = is.tree

  -- no entry leads anywhere else
  none_between : IsCompressedTurn start machine line own turn → (entries : List Entry) → entries ≡ own → (count : ℕ) → count ≤ length entries → SeesAs start (take count entries) turn.next.tree
  none_between is [] same zero some = ap (λ t. seen t) (ap (λ (l : List Entry). tree_after start l) same ∙ is.tree)
  none_between is [] same (suc count) some = absurd (omega (arith, some))
  none_between is (entry ∷ entries) same count some = absurd (let none : entry ∷ entries ≡ [] = same ∙ is.none in cc none)

  pub line_between : IsLineTurn start machine line own turn → (count : ℕ) → count ≤ length own → SeesAs start (take count own) machine.tree ⊎ SeesAs start (take count own) turn.next.tree
  line_between (inl is) = is.1.between
  line_between (inr (inl is)) = is.1.between
  line_between (inr (inr is)) = λ count some. inr (none_between is own (λ i. own) count some)
