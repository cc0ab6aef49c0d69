pub mod Ends
pub mod KeptParts
pub mod KeptExpressions
pub mod KeptStatements
pub mod KeptCalls
pub mod LawfulRuns
mod LawfulUnit
pub mod Living
pub mod LivingOn
pub mod LivingSteps
pub mod LivingParts
pub mod LivingExpressions
pub mod LivingStatements
pub mod LivingCalls
pub mod LivingFunctions
pub mod LivingHeld
pub mod LivingLaw
pub mod Lengths
pub mod Going
pub mod TicksLeft
pub mod PlainParts
pub mod PlainStretches
pub mod PlainActs
pub mod PlainPieces
pub mod PlainChoices
pub mod PlainUpdates
pub mod PlainNodes
pub mod ValueObjects
pub mod CallOperands
pub mod PlainCalls
pub mod PlainRuns
pub mod StatementLengths
pub mod FullExpressions
pub mod PlainStatements
pub mod PlainActions
pub mod PlainStores
pub mod PlainBlocks
pub mod PlainLoops
pub mod SwitchCases
pub mod PlainSwitches
pub mod PlainStatementRuns
pub mod Sizes
pub mod ExpressionKinds
pub mod StatementKinds
pub mod CompatibleForms
pub mod CallTable
pub mod UnitFunctions
pub mod UnitEnvironment
pub mod WantedFunctions
pub mod CallKinds
pub mod ParameterRuns
pub mod EnteredRuns
pub mod CompletedRuns
pub mod CalledRuns
pub mod BodyCalls
pub mod UnitRuns
pub mod Trees
pub mod Runs
mod PointerRuns
mod NumberRuns
mod StatementRuns
mod ObjectRuns
mod StructureRuns
mod CallRuns
mod LibraryRuns
mod HandlerRuns
