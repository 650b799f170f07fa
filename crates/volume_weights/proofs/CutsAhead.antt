-- A command ahead of which a cut goes is told no weight; where its step refuses it, the refusal is told.
use Rattle.std.proofs.Common.{◌≡◌, ℕ, Bool, true, false, List, refl, sym, ◌∙◌, ap, subst}
use Rattle.std.specs.Prelude.{is_some, IfSome, Option, Some, None, Ok}
use Rattle.std.proofs.lemmas.Bool.{true≢false}
use Rattle.sector_disk.specs.Lists.{Content}
use Rattle.hfs_language.specs.declared.command.Command.{Command}
use Rattle.hfs_language.specs.declared.refusal.Refusal.{Refusal}
use Rattle.hfs_language.specs.declared.reply.Reply.{Reply}
use Rattle.hfs_language.specs.declared.reply.Reply.TheVariants as reply
use Rattle.hfs_model.specs.Step.{is_refusal, refuses, step_line}
use Rattle.hfs_volume.specs.Content.{volume_of}
use Rattle.hfs_volume.specs.TreeOf.{tree_of}
use Rattle.hfs_volume.specs.Weight.{Data, data_of, needs_cut, weight, weight_with}
use Rattle.volume_base.specs.Refusing.{refusal_in}
use Rattle.volume_base.specs.Weighing.{joined, refused_or, weighed}
use Rattle.volume_base.specs.declared.weighing.Weight.{Weight}
use Rattle.volume_weights.specs.DataWeighing.{IsRefused, WaitsForCut}

module _ (content : Content) (asked : Command) where
  -- a command that puts no data waits for no cut
  pub never_waits : (other : Command) → asked ≡ other → data_of (tree_of content) other ≡ None → WaitsForCut content asked → ⊥
  never_waits other is none waits =
      true≢false (sym waits.1 ∙ ap (λ (k : Command). needs_cut (volume_of content) (data_of (tree_of content) k)) is ∙ ap (needs_cut (volume_of content)) none)

  -- nor does one that its step refuses
  pub refused_waits : (why : Refusal) → Some why ≡ refusal_in (step_line (tree_of content) (Ok asked)).0 → WaitsForCut content asked → ⊥
  refused_waits why is waits = true≢false (by (step_line (tree_of content) (Ok asked)).0 is ∙ waits.0)
    where
      by : (said : Reply) → Some why ≡ refusal_in said → true ≡ is_refusal said
      by (reply.No other) same = refl
      by reply.Ok same = absurd (cc same)
      by (reply.Listing list) same = absurd (cc same)
      by (reply.Facts told) same = absurd (cc same)
      by (reply.Content bytes) same = absurd (cc same)
      by (reply.Gauge gauge) same = absurd (cc same)

  -- data for which no cut is needed, where something was told, isn't waited for
  pub put_told : (put : Data) (said : Option Weight) → data_of (tree_of content) asked ≡ Some put → (is_some said ≡ true → needs_cut (volume_of content) (Some put) ≡ false) → WaitsForCut content asked → is_some said ≡ false
  put_told put said is no_cut waits = by (is_some said) no_cut
    where
      by : (b : Bool) → (b ≡ true → needs_cut (volume_of content) (Some put) ≡ false) → b ≡ false
      by true none = absurd (true≢false (sym waits.1 ∙ ap (needs_cut (volume_of content)) is ∙ none refl))
      by false none = refl

-- Where a cut is needed, nothing is told, or a refusal.
pub cut_or_refused : (capacity : ℕ) (takable : List Bool) (content : Content) (asked : Command) (said : Option Weight)
    → IfSome said (λ weighs. weighs ≡ weighed capacity takable (volume_of content) (tree_of content) asked) → (WaitsForCut content asked → is_some said ≡ false) → needs_cut (volume_of content) (data_of (tree_of content) asked) ≡ true → IfSome said IsRefused
cut_or_refused capacity takable content asked None is waits needs = tt
cut_or_refused capacity takable content asked (Some weighs) is waits needs = by (step_line (tree_of content) (Ok asked)).0 refl
  where
    other : Weight
    other = joined (weight capacity (volume_of content) (tree_of content) asked) (weight_with capacity takable (volume_of content) (tree_of content) asked)

    told : (said : Reply) → (step_line (tree_of content) (Ok asked)).0 ≡ said → is_refusal said ≡ false → IsRefused weighs
    told said reply_is none = absurd (true≢false (waits (ap is_refusal reply_is ∙ none, needs)))

    by : (said : Reply) → (step_line (tree_of content) (Ok asked)).0 ≡ said → IsRefused weighs
    by (reply.No why) reply_is = subst IsRefused (sym (is ∙ ap (λ (r : Reply). refused_or r other) reply_is)) tt
    by reply.Ok reply_is = told reply.Ok reply_is refl
    by (reply.Listing list) reply_is = told (reply.Listing list) reply_is refl
    by (reply.Facts facts) reply_is = told (reply.Facts facts) reply_is refl
    by (reply.Content bytes) reply_is = told (reply.Content bytes) reply_is refl
    by (reply.Gauge gauge) reply_is = told (reply.Gauge gauge) reply_is refl
