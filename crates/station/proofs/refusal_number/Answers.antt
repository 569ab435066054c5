-- `station::refusal_number` meets its contract: each arm gives the definition's number at its variant. Assumes nothing.
use Rattle.std.proofs.Common.{refl}
use Rattle.station.proofs.refusal_number.Goals as goal

pub returns-in-BadSettings : goal.returns-in-BadSettings
returns-in-BadSettings c = rw c.in-BadSettings.is refl

pub returns-in-BadBuffers : goal.returns-in-BadBuffers
returns-in-BadBuffers c = rw c.in-BadBuffers.is refl

pub returns-in-BadPlace : goal.returns-in-BadPlace
returns-in-BadPlace c = rw c.in-BadPlace.is refl

pub returns-in-OtherFlow : goal.returns-in-OtherFlow
returns-in-OtherFlow c = rw c.in-OtherFlow.is refl

pub returns-in-BadClass : goal.returns-in-BadClass
returns-in-BadClass c = rw c.in-BadClass.is refl

pub returns-in-BadType : goal.returns-in-BadType
returns-in-BadType c = rw c.in-BadType.is refl

pub returns-in-LongData : goal.returns-in-LongData
returns-in-LongData c = rw c.in-LongData.is refl

pub returns-in-NoRoom : goal.returns-in-NoRoom
returns-in-NoRoom c = rw c.in-NoRoom.is refl

pub returns-in-Held : goal.returns-in-Held
returns-in-Held c = rw c.in-Held.is refl

pub returns-in-ManyTags : goal.returns-in-ManyTags
returns-in-ManyTags c = rw c.in-ManyTags.is refl

pub returns-in-BadJob : goal.returns-in-BadJob
returns-in-BadJob c = rw c.in-BadJob.is refl

pub returns-in-HoldsTwelve : goal.returns-in-HoldsTwelve
returns-in-HoldsTwelve c = rw c.in-HoldsTwelve.is refl

pub returns-in-AllInUse : goal.returns-in-AllInUse
returns-in-AllInUse c = rw c.in-AllInUse.is refl

pub returns-in-AlreadyListed : goal.returns-in-AlreadyListed
returns-in-AlreadyListed c = rw c.in-AlreadyListed.is refl

pub returns-in-NotListed : goal.returns-in-NotListed
returns-in-NotListed c = rw c.in-NotListed.is refl

pub returns-in-HighDeficit : goal.returns-in-HighDeficit
returns-in-HighDeficit c = rw c.in-HighDeficit.is refl

pub returns-in-BadTable : goal.returns-in-BadTable
returns-in-BadTable c = rw c.in-BadTable.is refl

pub returns-in-WrongTotals : goal.returns-in-WrongTotals
returns-in-WrongTotals c = rw c.in-WrongTotals.is refl

pub returns-in-HighTotal : goal.returns-in-HighTotal
returns-in-HighTotal c = rw c.in-HighTotal.is refl
