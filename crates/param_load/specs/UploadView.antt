-- What contracts see of an upload, and the first test that the data of a frame fail.
use Rattle.std.specs.Prelude.{ℕ, List, length, take, drop, Option, ◌++◌}
use Rattle.fsoe_base.specs.declared.command.Code.{Code}
use Rattle.param_load.specs.declared.contents.Expected.{Expected}
use Rattle.param_load.specs.Contents.{contents_fault}
use Rattle.param_load.specs.declared.app_rule.AppRule.{AppRule}

-- what is expected, the bytes of a piece, and the pieces so far, joined
pub record UploadView : Type 0 where
  pub expected : Expected
  pub piece : ℕ
  pub joined : List ℕ

abbrev pub upload_fault : UploadView → AppRule → List ℕ → Option Code
upload_fault v rule bytes = contents_fault v.expected rule (length v.joined) (v.joined ++ take v.piece bytes) (drop v.piece bytes)
