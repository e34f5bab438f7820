-- Each input of images has a report.
use Rattle.process_image.proofs.Common.{ImageEvent, ImageHeading, IsImageReport, IsPlanOf, Plan, Stop, image_format, image_report, input_read}
use Rattle.image_file.proofs.SomePlan.{some_plan}
use Rattle.file_run.specs.Report.{last_line}
use Rattle.std.proofs.Common.{ℕ, List, reverse, Option, Some, None, IfSome, refl}

report-by : (heading : Option ImageHeading) (events : List ImageEvent) (stop : Stop) → IfSome heading (λ h. (plan : Plan) × IsPlanOf h plan) → (text : List ℕ) × IsImageReport heading events stop text
report-by None events stop plan = (last_line 0 stop, refl)
report-by (Some h) events stop plan = (image_report plan.0 (reverse events) stop, (plan.0, plan.1, refl))

pub some_report : (bytes : List ℕ) → (text : List ℕ) × IsImageReport (input_read image_format bytes).heading (input_read image_format bytes).events (input_read image_format bytes).stop text
some_report bytes = report-by (input_read image_format bytes).heading (input_read image_format bytes).events (input_read image_format bytes).stop (some_plan bytes)
