-- What a crash leaves while a store writes, as a mount finds it.
use Rattle.std.specs.Prelude.{◌≡◌, ◌⊎◌, ℕ, ◌/◌, ◌++◌, drop, Ok}
use Rattle.sector_disk.specs.Lists.{Content, sector}
use Rattle.sector_disk.specs.Disk.{Candidates, State, HasNothingPending, content, content_of}
use Rattle.sector_disk.specs.Space.{AgreesOutside}
use Rattle.jnl_format.specs.Header.{header_bytes, IsHeader}
use Rattle.jnl_format.specs.Recovery.{recovery}
use Rattle.jnl_format.specs.declared.structures.Header.{Header}
use Rattle.jnl_format.specs.Keeping.{KeepsHeader}
use Rattle.jnl_replay.specs.declared.plan.Plan.{Plan}
use Rattle.jnl_store.specs.Journal.{IsClosed, IsSpilled}
use Rattle.jnl_store.specs.Store.{IsLive, KeepsOn, KeepsRingOn, content_over, durable_of}
use Rattle.jnl_store.specs.declared.store.Store.{Store}

-- the header of a journal in the same form, whatever its offsets are
pub record IsInForm (plan : Plan) (header : Header) : Type 0 where
  pub whole : IsHeader plan.info.size header
  pub order : header.order ≡ plan.header.order
  pub blhdr : header.blhdr ≡ plan.header.blhdr

-- The image can be mounted, and stands for this content. Against an older content of the disk, its volume header
-- is accepted and of the same volume, the info block is the same, and the journal header differs in its offsets
-- alone. The journal's own sectors are those of the image.
pub record StandsFor (plan : Plan) (old image recovered : Content) : Type 0 where
  pub stands : recovery image ≡ Ok recovered
  pub volume : KeepsHeader old image
  pub info : sector image plan.place.info_sector ≡ sector old plan.place.info_sector
  pub header : Header
  pub form : IsInForm plan header
  pub spelled : sector image (plan.info.offset / 512) ≡ header_bytes header ++ drop 44 (sector old (plan.info.offset / 512))
  pub own : (s : ℕ) → IsClosed plan s → sector recovered s ≡ sector image s

-- the same content, but in what was spilled and in the journal itself
abbrev pub AgreesDurable : Plan → State → Content → Content → Type 0
AgreesDurable plan disk durable recovered = AgreesOutside (λ s. IsSpilled plan disk.candidates s ⊎ IsClosed plan s) durable recovered

-- the image of these candidates stands for the durable content, but in what was spilled and in the journal itself
abbrev pub StandsBetween : Store → Candidates → Content → Type 0
StandsBetween store candidates image =
    (recovered : Content) × StandsFor store.plan (content_of candidates) image recovered
    × AgreesOutside (λ s. IsSpilled store.plan candidates s ⊎ IsClosed store.plan s) (durable_of store (content_of candidates)) recovered

-- the image stands for the durable content, but in what was spilled and in the journal itself
abbrev pub StandsForDurable : Store → State → Content → Type 0
StandsForDurable store disk image = (recovered : Content) × StandsFor store.plan (content disk) image recovered × AgreesDurable store.plan disk (durable_of store (content disk)) recovered

-- the image stands for this content, but in what was spilled and in the journal itself, or for the other, but in
-- the journal itself
abbrev pub StandsForOne : Plan → State → Content → Content → Content → Type 0
StandsForOne plan disk durable target image =
    (recovered : Content) × StandsFor plan (content disk) image recovered × (AgreesDurable plan disk durable recovered ⊎ AgreesOutside (IsClosed plan) target recovered)

-- the image stands for the durable content, or for the content with all that was put
abbrev pub StandsForEither : Store → State → Content → Type 0
StandsForEither store disk image = StandsForOne store.plan disk (durable_of store (content disk)) (content_over store (content disk)) image

-- Nothing is pending, and the disk's content stands for the durable content of the store, which is this one but in the
-- journal itself. What is live was put or live before.
pub record MakesDurable (old new : Store) (before after : State) (target : Content) : Type 0 where
  pub keeps : KeepsOn new after
  pub settled : HasNothingPending after
  pub stands : StandsFor old.plan (content before) (content after) (durable_of new (content after))
  pub agrees : AgreesOutside (IsClosed old.plan) target (durable_of new (content after))
  pub live : (s : ℕ) → IsLive new (content after) s → IsLive old (content before) s

-- the same, and no list is live
pub record Checkpoints (old new : Store) (before after : State) (target : Content) : Type 0 where
  pub settles : MakesDurable old new before after target
  pub empty : new.plan.header.start ≡ new.plan.header.end
  pub durable : durable_of new (content after) ≡ content after

-- the same two, whatever the slots keep
pub record RingDurable (old new : Store) (before after : State) (target : Content) : Type 0 where
  pub keeps : KeepsRingOn new after
  pub settled : HasNothingPending after
  pub stands : StandsFor old.plan (content before) (content after) (durable_of new (content after))
  pub agrees : AgreesOutside (IsClosed old.plan) target (durable_of new (content after))
  pub live : (s : ℕ) → IsLive new (content after) s → IsLive old (content before) s

pub record RingCheckpoints (old new : Store) (before after : State) (target : Content) : Type 0 where
  pub settles : RingDurable old new before after target
  pub empty : new.plan.header.start ≡ new.plan.header.end
  pub durable : durable_of new (content after) ≡ content after
