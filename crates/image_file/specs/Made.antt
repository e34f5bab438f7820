-- Images that are made as a header says.
use Rattle.std.specs.Prelude.{◌≡◌}
use Rattle.std.specs.List.{AllZip}
use Rattle.fsoe_base.specs.declared.command.End.TheVariants as side
use Rattle.schedule_file.specs.Header.{IsMasterOf, IsSlaveOf}
use Rattle.end_model.specs.Setup.{Setup, OfMaster, OfSlave}
use Rattle.image_file.specs.Header.{ImageHeading, slots_of, slot_end}
use Rattle.image_file.specs.Places.{AreNumbered, Place, Plan}
use Rattle.image_file.specs.declared.header.SlotHeader.{SlotHeader}

-- an end is set to what the lines of a slot say
abbrev pub IsEndOf : SlotHeader → Setup → Type 0
IsEndOf s (OfMaster settings) = (slot_end s ≡ side.Master) × IsMasterOf s.own settings
IsEndOf s (OfSlave settings) = (slot_end s ≡ side.Slave) × IsSlaveOf s.own settings

-- a slot stands where its lines say, with an end that is set as they say
pub record IsSlotOf (s : SlotHeader) (p : Place) : Type 0 where
  pub at_in_is : p.at_in ≡ s.at_in
  pub at_out_is : p.at_out ≡ s.at_out
  pub end_is : IsEndOf s p.setup

-- images are made as a header says; its slots are numbered in their order
pub record IsPlanOf (h : ImageHeading) (plan : Plan) : Type 0 where
  pub size_in_is : plan.size_in ≡ h.size_in
  pub size_out_is : plan.size_out ≡ h.size_out
  pub slots : AllZip IsSlotOf (slots_of h) plan.places
  pub numbers : AreNumbered 1 plan.places
