mod RunWords
mod OperandRuns
mod ObjectRuns
mod CallRuns
mod LibraryRuns
pub mod Fronts
pub mod TicksFall
pub mod ServedTicks
pub mod AccessTicks
mod Weights
mod Acting
mod ActingOn
mod Falling
pub mod RunTicks
mod Counted
mod ValidExamples
mod EndLemmas
mod Operands
mod Standing
mod CallValues
mod ParameterSlots
mod OwnFunctions
mod CallsStand
mod SlotObjects
mod GivenKinds
mod NextStands
mod ActStands
mod StepStands
mod NeverSticks
mod ProgressExamples
mod Telling
mod ListedParts
mod Arriving
mod KindsAlike
mod Passes
mod Faults
mod Blame
