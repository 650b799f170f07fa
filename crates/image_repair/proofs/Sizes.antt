-- The sectors of what an image stands for have their bytes.
use Rattle.std.proofs.Common.{◌≡◌, ℕ, List, [], ◌∷◌, inl, inr, ⊎_elim, length, drop, ◌∙◌, ap, subst, arith}
use Rattle.std.specs.Prelude.{Ok}
use Rattle.std.proofs.lemmas.List.{length-take, length-drop}
use Rattle.sector_disk.specs.Disk.{IsDisk, State, content}
use Rattle.jnl_format.specs.Info.{unless_fault}
use Rattle.jnl_format.specs.Named.{Each, IsGoodHome, IsHomeOf, MixesHomes}
use Rattle.jnl_format.specs.Recovery.{Content, Journal, header_of_volume, homes_of, info_sector_of, journal_in, recovery, recovery_at_as, replayed, sector, text_fault, text_of, volume_of}
use Rattle.jnl_format.specs.declared.blocks.Home.{Home}
use Rattle.jnl_format.specs.declared.blocks.Volume.{Volume}
use Rattle.jnl_replay.specs.Plan.{journal_of}
use Rattle.jnl_replay.specs.declared.plan.Plan.{Plan}
use Rattle.jnl_ring.proofs.Bytes.{content_whole}
use Rattle.volume_repair.specs.RepairLaws.{HasWholeSectors}
use Rattle.hfs_serving.proofs.Recoveries.{recovery_parts}
use Rattle.jnl_format.proofs.Alike.{good_homes}
use Rattle.jnl_format.proofs.Mixing.{mixes_with_homes}
use Rattle.jnl_format.proofs.Recovering.{then_parts, unless_parts}

home_size : (volume : Volume) (text : List ℕ) (homes : List Home) (at : ℕ) (value : List ℕ) → Each (IsGoodHome volume text) homes → IsHomeOf text homes at value → length value ≡ 512
home_size volume text [] at value good none = absurd none
home_size volume text (h ∷ hs) at value good (inl is) = omega (arith, ap (λ (l : List ℕ). length l) is.1, length-take 512 (drop h.place text), length-drop h.place text, good.0.placed)
home_size volume text (h ∷ hs) at value good (inr more) = home_size volume text hs at value good.1 more

pub sector_size : (image recovered : Content) → recovery image ≡ Ok recovered → (s : ℕ) → length (sector image s) ≡ 512 → length (sector recovered s) ≡ 512
unfolding recovery_at_as
sector_size image recovered is s size =
    let at = info_sector_of (header_of_volume image) in
    let version = (header_of_volume image).last_mounted_version in
    let p = then_parts (journal_in at image) (λ (j : Journal). unless_fault (text_fault at version j image) (replayed j image)) recovered is in
    let j = p.0 in
    let q = unless_parts (text_fault at version j image) (replayed j image) recovered p.2 in
    let volume = volume_of at j image in
    let text = text_of j image in
    let homes = homes_of j image in
    let all : Each (IsGoodHome volume text) homes = good_homes at version j image q.0 in
    let m : MixesHomes text homes image (replayed j image) = mixes_with_homes text homes image in
    subst (λ (d : Content). length (sector d s) ≡ 512) q.1 (⊎_elim (λ same. ap (λ (l : List ℕ). length l) same ∙ size) (λ home. home_size volume text homes s (sector (replayed j image) s) all home) (m.each s))

pub start_whole : (plan : Plan) (disk : State) → IsDisk disk → recovery (content disk) ≡ Ok (replayed (journal_of plan) (content disk)) → HasWholeSectors (replayed (journal_of plan) (content disk))
start_whole plan disk is recovers at inside =
    sector_size (content disk) (replayed (journal_of plan) (content disk)) recovers at
    (content_whole disk is at (omega (arith, inside, (recovery_parts (content disk) (replayed (journal_of plan) (content disk)) recovers).size)))
