-- What is certain of the planter: of its down-force jobs, of all its jobs, and of an admission.
pub mod DownForce
pub mod NeverLate
pub mod Admitted
