use Rattle.std.proofs.Common.{◌≡◌, ◌<◌, ℕ, List, [], length, get_or, sym, ◌∙◌, ap, arith}
use Rattle.std.specs.Prelude.{slice_index, slice_range}
use Rattle.std.proofs.lemmas.List.{get_or_default}
use Rattle.fsck_list.specs.Flat.{start_of}
use Rattle.fsck_list.proofs.FlatLaws.{length_cut, record_is}
use Rattle.fsck_list.proofs.records.Records.get.Goals as goal

pub start_of-start-requires : goal.start_of-start-requires
start_of-start-requires c = omega (arith, c.requires, length_cut c.self.inside.bytes.items c.self.inside.ends.items, ap length c.self.view_is, ap length c.deref.ensures.value)

pub index-end-requires : goal.index-end-requires
index-end-requires c = omega (arith, c.requires, length_cut c.self.inside.bytes.items c.self.inside.ends.items, ap length c.self.view_is, c.self.inside.ends.ok.0)

pub stretch-requires : goal.stretch-requires
stretch-requires c =
    let bytes : List ℕ = c.self.inside.bytes.items in
    let ends : List ℕ = c.self.inside.ends.items in
    let inside : c.args.i < length ends = omega (arith, c.requires, length_cut bytes ends, ap length c.self.view_is) in
    let from : c.start_of-start.result ≡ start_of ends c.args.i = c.start_of-start.ensures ∙ ap (λ (l : List ℕ). start_of l c.args.i) c.deref.ensures.value in
    let to : c.index-end.result.now ≡ slice_index ends c.args.i = c.index-end.ensures ∙ get_or_default ends c.args.i c.index-end.result.now 0 inside in
    record {
      order = omega (arith, from, to, c.self.invariant.rising c.args.i inside);
      inside = omega (arith, to, c.self.invariant.inside c.args.i inside, ap length c.deref-2.ensures.value);
    }

pub returns : goal.returns
returns c =
    let bytes : List ℕ = c.self.inside.bytes.items in
    let ends : List ℕ = c.self.inside.ends.items in
    let inside : c.args.i < length ends = omega (arith, c.requires, length_cut bytes ends, ap length c.self.view_is) in
    let from : c.start_of-start.result ≡ start_of ends c.args.i = c.start_of-start.ensures ∙ ap (λ (l : List ℕ). start_of l c.args.i) c.deref.ensures.value in
    let to : c.index-end.result.now ≡ slice_index ends c.args.i = c.index-end.ensures ∙ get_or_default ends c.args.i c.index-end.result.now 0 inside in
    c.stretch.ensures
    ∙ ap (λ (l : List ℕ). slice_range l c.start_of-start.result c.index-end.result.now) c.deref-2.ensures.value
    ∙ ap (λ n. slice_range bytes n c.index-end.result.now) from
    ∙ ap (λ n. slice_range bytes (start_of ends c.args.i) n) to
    ∙ sym (record_is bytes ends c.args.i inside)
    ∙ ap (λ (l : List (List ℕ)). get_or l c.args.i []) c.self.view_is
