mod Builds
