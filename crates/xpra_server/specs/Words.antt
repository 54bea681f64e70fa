-- Why the words of a call are not known.
use Rattle.std.specs.declared.io.ErrorKind.{ErrorKind}
use Rattle.std.specs.declared.io.ErrorKind.TheVariants as K
use Rattle.xpra_server.specs.declared.words.Unread.{Unread}
use Rattle.xpra_server.specs.declared.words.Unread.TheVariants as U

-- for want of memory, or else since one of them is no text
abbrev pub unread_for : ErrorKind → Unread
unread_for K.OutOfMemory = U.NoMemory
unread_for kind = U.NotText
