-- Stretches in which a volume is only looked at.
use Rattle.std.proofs.Common.{◌≡◌, ◌⊎◌, ℕ, List, [], inl, inr, refl, sym, ◌∙◌, ap, subst}
use Rattle.std.specs.Prelude.{Option, Some, None, Result, Ok, Err}
use Rattle.sector_disk.specs.Space.{Space}
use Rattle.jnl_format.specs.Recovery.{Content}
use Rattle.hfs_language.specs.declared.refusal.Refusal.{Refusal}
use Rattle.hfs_language.specs.declared.refusal.Refusal.TheVariants as refusal
use Rattle.hfs_language.specs.declared.reply.Reply.TheVariants as reply
use Rattle.hfs_model.specs.Plain.{IsPlainTree}
use Rattle.hfs_volume.specs.TreeOf.{tree_of}
use Rattle.volume_runs.specs.Run.{shrunk_in}
use Rattle.hfs_serving.specs.Going.{Knowing, Stands, Stays, StopsOn}
use Rattle.hfs_serving.specs.Looks.{link_read}
use Rattle.hfs_serving.specs.Outside.{Outside}
use Rattle.hfs_serving.specs.Serving.{Goes, Touches}
use Rattle.hfs_serving.proofs.Batches.{goes_both, goes_none, stops_there, touch_goes}
use Rattle.hfs_serving.proofs.Leading.{leads_none}
use Rattle.hfs_serving.proofs.Lists.{shrunk_in-none}
use Rattle.link_kinds.specs.declared.kinds.KindRefusal.{KindRefusal}
use Rattle.link_kinds.specs.Resolves.{resolves}
use Rattle.open_files.specs.declared.act.SessionReply.{SessionReply}
use Rattle.open_files.specs.declared.act.SessionReply.TheVariants as told
use Rattle.session_lines.specs.declared.errands.Look.{Look}
use Rattle.session_lines.specs.declared.errands.Look.TheVariants as look
use Rattle.session_lines.specs.KindTurns.{followed_says, look_says, target_says}
use Rattle.session_lines.specs.Lookings.{HasLooked, HasSeen}

module _ (capacity : ℕ) (shrunk : Option ℕ) (committed now : Content) (old : Outside) where
  -- nothing was done
  pub looked_none : (knows : Knowing) (space : Space) → Stands knows committed now shrunk space old → HasLooked capacity knows committed now shrunk old space old
  looked_none knows space stands = record { goes = goes_none capacity shrunk committed now old space stands.below stands.reads stands.leaves; heads = stands.heads; known = stands.known }

  -- one call that only read
  pub looked_once : (knows : Knowing) (space : Space) → Stands knows committed now shrunk space old → (knows_new : Knowing) (new : Space) (after : Outside) → Touches committed space old new after → Stays knows_new committed now shrunk new
      → HasLooked capacity knows_new committed now shrunk old new after
  looked_once knows space stands knows_new new after touches stays = record {
    goes = touch_goes capacity shrunk committed now old space stands.below stands.reads [] now new after touches (leads_none capacity shrunk now) stays.reads;
    heads = stays.heads;
    known = stays.known;
  }

  module _ (knows : Knowing) (space : Space) (mid : Outside) (looked : HasLooked capacity knows committed now shrunk old space mid) where
    pub stands_looked : Stands knows committed now shrunk space mid
    stands_looked = record { known = looked.known; below = looked.goes.below; reads = looked.goes.reads; heads = looked.heads; leaves = looked.goes.leaves }

    -- another one behind it
    pub looked_both : (knows_new : Knowing) (new : Space) (after : Outside) → HasLooked capacity knows_new committed now shrunk mid new after → HasLooked capacity knows_new committed now shrunk old new after
    looked_both knows_new new after second = record {
      goes =
          goes_both capacity shrunk committed now old [] [] committed now space mid looked.goes committed now new after
          (subst (λ (s : Option ℕ). Goes capacity s None committed now mid [] committed now new after) (sym (shrunk_in-none shrunk)) second.goes);
      heads = second.heads;
      known = second.known;
    }

    -- a fault behind it
    pub looked_stops : StopsOn capacity committed now shrunk old [] mid
    looked_stops = record { more = []; plain = tt; asked = refl; stops = stops_there capacity shrunk committed now old [] committed now space mid looked.goes }

    -- ---- what a line is told

    -- memory was missing
    pub short_seen : (what : Look) → HasSeen what capacity knows committed now shrunk old space mid (told.Plain (reply.No refusal.OutOfMemory))
    short_seen what = record { looked = looked; says = λ plain. inl refl }

    pub target_seen : (path : List (List ℕ)) (found : Result (Option (List ℕ)) Refusal) → found ≡ link_read (tree_of now) path → HasSeen (look.Target path) capacity knows committed now shrunk old space mid (target_says found)
    target_seen path found is = record { looked = looked; says = λ plain. inr (ap target_says is) }

    pub path_seen : (path : List (List ℕ)) (answer : Result (List (List ℕ)) KindRefusal) → (IsPlainTree (tree_of now) → answer ≡ resolves (tree_of now) path) → HasSeen (look.Follow path) capacity knows committed now shrunk old space mid (followed_says answer)
    path_seen path answer is = record { looked = looked; says = λ plain. inr (ap followed_says (is plain)) }
