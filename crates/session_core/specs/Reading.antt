-- One read of at most 4,096 bytes from a connection that is open.
use Rattle.std.specs.Prelude.{ℕ, ◌≡◌, ◌⊎◌, List, []}
use Rattle.link_bay.specs.Connections.{ConnectionRecord}
use Rattle.link_bay.specs.Answers.{ReadGives}
use Rattle.link_bay.specs.declared.bay.Gave.TheVariants as G
use Rattle.window_model.specs.Desktop.{Window}
use Rattle.first_script.specs.declared.paint.Paint.{Paint}
use Rattle.client_connection.specs.declared.ends.End.{End}
use Rattle.client_connection.specs.declared.ends.End.TheVariants as end
use Rattle.session_core.specs.declared.answers.Received.{Received}
use Rattle.session_core.specs.declared.answers.Received.TheVariants as R
use Rattle.client_connection.specs.Clients.{ClientSeen}
use Rattle.client_connection.specs.Hearing.{Hears, IsUnbuilt}

-- a read that does not end the connection: what the provider gave, and the client before and after
abbrev pub Reads : ConnectionRecord → ConnectionRecord → List Paint → List Window → ClientSeen → Received → ClientSeen → Type 0
Reads was now lines desk c R.Closed c' = ⊥
Reads was now lines desk c (R.Took n) c' = (bytes : List ℕ) × ReadGives was now [] bytes 4096 (G.Bytes n) × Hears lines desk c bytes c'
Reads was now lines desk c R.Again c' = ReadGives was now [] [] 4096 G.Again × (c' ≡ c)
Reads was now lines desk c (R.Ended ended) c' = ⊥
Reads was now lines desk c R.NoMemory c' = ⊥

-- it read bytes that are of no form that is built
abbrev pub ReadsUnbuilt : ConnectionRecord → ConnectionRecord → List Paint → List Window → ClientSeen → Type 0
ReadsUnbuilt was now lines desk c = (bytes : List ℕ) × (n : ℕ) × ReadGives was now [] bytes 4096 (G.Bytes n) × IsUnbuilt lines desk c bytes

-- why a read ends a connection, by the end
abbrev pub ReadEnds : ConnectionRecord → ConnectionRecord → List Paint → List Window → ClientSeen → End → Type 0
ReadEnds was now lines desk c end.Settled = ⊥
ReadEnds was now lines desk c end.Unbuilt = ReadGives was now [] [] 4096 G.End ⊎ ReadGives was now [] [] 4096 G.Failed ⊎ ReadsUnbuilt was now lines desk c
ReadEnds was now lines desk c end.Short = ReadGives was now [] [] 4096 G.NoMemory ⊎ (bytes : List ℕ) × (n : ℕ) × ReadGives was now [] bytes 4096 (G.Bytes n)
ReadEnds was now lines desk c end.Unended = ⊥

-- how a read answers that it ended a connection so
abbrev pub ending_answer : End → Received
ending_answer end.Settled = R.Ended end.Settled
ending_answer end.Unbuilt = R.Ended end.Unbuilt
ending_answer end.Short = R.NoMemory
ending_answer end.Unended = R.Ended end.Unended

-- a read that ends the connection
abbrev pub EndsReading : ConnectionRecord → ConnectionRecord → List Paint → List Window → ClientSeen → Received → Type 0
EndsReading was now lines desk c answer = (ended : End) × (answer ≡ ending_answer ended) × ReadEnds was now lines desk c ended
