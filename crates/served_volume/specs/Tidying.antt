-- What a step of housekeeping came to, as serving sees it.
use Rattle.hfs_serving.specs.declared.volume.Next.{Next}
use Rattle.hfs_serving.specs.declared.volume.Next.TheVariants as next
use Rattle.volume_space.specs.declared.tidying.Tidying.{Tidying}
use Rattle.volume_space.specs.declared.tidying.Tidying.TheVariants as tidying

-- each answer by the one of the same name
abbrev pub next_of : Tidying → Next
next_of tidying.Rest = next.Rest
next_of tidying.Made = next.Made
next_of tidying.CommitFirst = next.CommitFirst
