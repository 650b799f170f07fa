-- What a volume is asked for, in parts such as a line can have.
use Rattle.hfs_language.specs.Written.{FitsCommand, FitsPath}
use Rattle.hfs_model.specs.declared.kinds.KindEdit.{KindEdit}
use Rattle.hfs_model.specs.declared.kinds.KindEdit.TheVariants as edit
use Rattle.hfs_volume.specs.declared.asked.Asked.{Asked}
use Rattle.hfs_volume.specs.declared.asked.Asked.TheVariants.{Kind, Plain}

-- its path is one of a line
abbrev pub FitsEdit : KindEdit → Type 0
FitsEdit (edit.Symlink path value) = FitsPath path
FitsEdit (edit.ResourceWrite path from value) = FitsPath path
FitsEdit (edit.ResourceRead path from long) = FitsPath path

-- each of its parts is such as a line can have
abbrev pub FitsAsked : Asked → Type 0
FitsAsked (Plain asked) = FitsCommand asked
FitsAsked (Kind asked) = FitsEdit asked
