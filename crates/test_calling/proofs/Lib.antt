mod Caseless
mod IdentifierWords
mod Named
mod NamesInTrees
mod Unmarked
pub mod WhatTheyDo
pub mod WhatIsNullable
pub mod HowTheyAreRewritten
pub mod LooseOnes
pub mod WhatPartsDo
pub mod WhatCounts
pub mod WhatIsExpected
pub mod WhatTagsDo
