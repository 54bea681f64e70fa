mod Openings
mod Desks
mod OpenedNumbers
mod Scripts
mod Texts
mod Keeping
mod Rounds
