-- What reading a client's first packet may answer.
use Rattle.std.specs.Prelude.{◌≡◌, ◌≢◌, Result, Ok, Err, IsOkAnd, []}
use Rattle.hello_caps.specs.declared.caps.Caps.{Caps}
use Rattle.hello_caps.specs.declared.caps.HelloFault.{HelloFault}
use Rattle.hello_caps.specs.declared.caps.HelloRead.{HelloRead}
use Rattle.hello_caps.specs.declared.caps.HelloRead.TheVariants as R

-- The answer is what was told; or want of memory, which comes only where the hello is accepted and names a uuid.
abbrev pub IsAnswered : Result Caps HelloFault → HelloRead → Type 0
IsAnswered told (R.Accepted caps) = told ≡ Ok caps
IsAnswered told (R.Refused fault) = told ≡ Err fault
IsAnswered told R.NoMemory = IsOkAnd told (λ caps. caps.uuid ≢ [])
