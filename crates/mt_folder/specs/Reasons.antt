-- Why a file is not had, as text.
use Rattle.std.specs.Prelude.{ℕ, List, codes}
use Rattle.mt_folder.specs.declared.reason.Reason.{Reason}
use Rattle.mt_folder.specs.declared.reason.Reason.TheVariants.{NoFile, NoFolder, Denied, Folder, Irregular, Open, ReadOnly, Other}

-- the text after the file's name
abbrev pub reason_text : Reason → List ℕ
reason_text NoFile = codes "no such file"
reason_text NoFolder = codes "there is no such folder"
reason_text Denied = codes "permission denied"
reason_text Folder = codes "is a folder"
reason_text Irregular = codes "is no regular file"
reason_text Open = codes "is open in another program"
reason_text ReadOnly = codes "is on a read-only file system"
reason_text Other = codes "cannot be read or written; see that its disk has room"
