use Rattle.std.proofs.Common.{◌≡◌, ◌≤◌, ℕ, List, length, Option, Some, sym, ◌∙◌, ap, arith}
use Rattle.std.specs.Prelude.{Result, Ok, Err, OnOk}
use Rattle.sector_disk.specs.Lists.{sector}
use Rattle.jnl_format.specs.Recovery.{Content}
use Rattle.fsck_scan.specs.Read.{sector_or_zeros}
use Rattle.fsck_scan.proofs.Pieces.{given, none_past, none_behind}
use Rattle.fsck_scan.proofs.fork.read_sector.Goals as goal

on_ok : {T E : Type 0} (result : Result T E) (P Q : Type 0) → (P → Q) → OnOk result P → OnOk result Q
on_ok (Ok x) P Q step holds = step holds
on_ok (Err e) P Q step holds = tt

pub returns-then-at-fork-clause-value : goal.returns-then-at-fork-clause-value
returns-then-at-fork-clause-value g c tells =
    let content : Content = (g.V.SectorView.space c.args.view.now).content in
    c.clear-then-at-fork.ensures ∙ none_past content c.args.fork.now.limit c.in-Some.at c.if-at-fork.true ∙ ap (λ (o : Option ℕ). sector_or_zeros content c.args.fork.now.limit o) c.in-Some.ensures

pub returns-then-at-sectors-clause-value : goal.returns-then-at-sectors-clause-value
returns-then-at-sectors-clause-value g c tells =
    let content : Content = (g.V.SectorView.space c.args.view.now).content in
    let past : length content ≤ c.in-Some.at = omega (arith, g.met.V.SectorView.well_formed c.args.view.now tells, c.sectors.ensures, c.if-at-sectors.true) in
    c.clear-then-at-sectors.ensures ∙ none_behind content c.args.fork.now.limit c.in-Some.at past ∙ ap (λ (o : Option ℕ). sector_or_zeros content c.args.fork.now.limit o) c.in-Some.ensures

pub returns-clause-value : goal.returns-clause-value
returns-clause-value g c tells =
    let content : Content = (g.V.SectorView.space c.args.view.now).content in
    on_ok c.get.result _ _ (λ is. given content c.args.fork.now.limit c.in-Some.at c.get.new.into c.if-at-fork.false is c.get.array_long ∙ ap (λ (o : Option ℕ). sector_or_zeros content c.args.fork.now.limit o) c.in-Some.ensures) (c.get.ensures.value tells)

-- a place has one sector
one_place : (o : Option ℕ) (one other : ℕ) → Some one ≡ o → o ≡ Some other → one ≡ other
one_place o one other is also = let same : Some one ≡ Some other = is ∙ also in cc

pub returns-then-at-fork-clause-whole : goal.returns-then-at-fork-clause-whole
returns-then-at-fork-clause-whole g c tells at is below inside = absurd (omega (arith, one_place _ c.in-Some.at at c.in-Some.ensures is, c.if-at-fork.true, below))

pub returns-then-at-sectors-clause-whole : goal.returns-then-at-sectors-clause-whole
returns-then-at-sectors-clause-whole g c tells at is below inside = absurd (omega (arith, one_place _ c.in-Some.at at c.in-Some.ensures is, c.sectors.ensures, c.if-at-sectors.true, inside))

pub returns-clause-whole : goal.returns-clause-whole
returns-clause-whole g c tells =
    let content : Content = (g.V.SectorView.space c.args.view.now).content in
    on_ok c.get.result _ _ (λ value at is below inside. ap (λ n. length (sector content n)) (sym (one_place _ c.in-Some.at at c.in-Some.ensures is)) ∙ ap (λ (l : List ℕ). length l) (sym value) ∙ c.get.array_long) (c.get.ensures.value tells)
