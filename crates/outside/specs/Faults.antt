-- What an error of the library says of a file that wasn't found.
use Rattle.std.specs.{IoError.error_kind, Prelude.{◌≡◌, ◌≢◌}, declared.io.Error.Error}
use Rattle.std.specs.declared.io.ErrorKind.TheVariants.{NotFound}
use Rattle.outside.specs.declared.folder.FindFault.{FindFault, TheVariants.{Absent, Failed}}

-- the name is absent if the error's kind is 'not found', and anything else is a failure
pub record IsFaultOf (error : Error) (fault : FindFault) : Type 0 where
  pub absent : error_kind error ≡ NotFound → fault ≡ Absent
  pub failed : error_kind error ≢ NotFound → fault ≡ Failed
